-- Identities over a commutative ring by computation: two expressions are brought to a sorted sum of terms and compared.
-- `solve` proves that expressions which pass the test `same` have the same value, whatever the variables stand for.
-- `combine` proves an equation from given ones, each multiplied by an expression that the caller names. Assumes nothing.
use mathlib.Core.Path.{◌≡◌, refl, sym, ◌∙◌, ap, ap₂, subst}
use mathlib.Core.Bool.{Bool, true, false}
use mathlib.Core.List.{List, [], ◌∷◌}
use Prim.Native.Nat.{ℕ, zero, suc, compare, Ordering}
use lib.Dec.{T, compare_is_eq, eqb→eq}
use lib.IntN.{ℤ, pos, negsuc, ◌+ℤ◌, ◌*ℤ◌}
use lib.ListN.{get_or}
use Rattle.algebra.proofs.Ring as Laws
use Rattle.algebra.proofs.Ring.{Ring}

infixl 6 ◌⊕◌
infixl 7 ◌⊗◌
infix 8 ⊖◌
-- An expression: a variable by its number, an integer, a sum, a product, a negation
pub data Expr : Type 0 where
  var : ℕ → Expr
  con : ℤ → Expr
  ◌⊕◌ : Expr → Expr → Expr
  ◌⊗◌ : Expr → Expr → Expr
  ⊖◌ : Expr → Expr

-- An integer in a ring: zero and one are the ring's own, any other is cast
abbrev pub constant : (R : Ring) → ℤ → R.Carrier
constant R (pos zero) = R.none
constant R (pos (suc zero)) = R.one
constant R (pos (suc (suc n))) = R.cast (pos (suc (suc n)))
constant R (negsuc n) = R.cast (negsuc n)

-- The value of an expression, where variable n stands for the n-th of the values
abbrev pub value : (R : Ring) → List R.Carrier → Expr → R.Carrier
value R values (var n) = get_or values n R.none
value R values (con z) = constant R z
value R values (a ⊕ b) = R.plus (value R values a) (value R values b)
value R values (a ⊗ b) = R.times (value R values a) (value R values b)
value R values (⊖ a) = R.negate (value R values a)

-- A sum of terms, each an integer times a product of variables
pub data Terms : Type 0 where
  end : Terms
  term : ℤ → List ℕ → Terms → Terms

-- A variable x, and what `rest` makes of a product, sorted into a product
abbrev pub sort_in : ℕ → (List ℕ → List ℕ) → List ℕ → List ℕ
sort_in x rest [] = x ∷ rest []
sort_in x rest (y ∷ ys) = elim (compare x y) [ Ordering.lt ↦ x ∷ rest (y ∷ ys) | Ordering.eq ↦ x ∷ rest (y ∷ ys) | Ordering.gt ↦ y ∷ sort_in x rest ys ]

-- The product of two sorted products of variables
abbrev pub join : List ℕ → List ℕ → List ℕ
join [] = λ ys. ys
join (x ∷ xs) = sort_in x (join xs)

-- The order of the terms, by their variables: a product comes before its own beginnings
abbrev pub order : List ℕ → List ℕ → Ordering
order [] [] = Ordering.eq
order [] (y ∷ ys) = Ordering.gt
order (x ∷ xs) [] = Ordering.lt
order (x ∷ xs) (y ∷ ys) = elim (compare x y) [ Ordering.lt ↦ Ordering.lt | Ordering.eq ↦ order xs ys | Ordering.gt ↦ Ordering.gt ]

-- A term in front of a sum, left out where its integer is zero
abbrev pub keep : ℤ → List ℕ → Terms → Terms
keep (pos zero) m ts = ts
keep (pos (suc n)) m ts = term (pos (suc n)) m ts
keep (negsuc n) m ts = term (negsuc n) m ts

-- The sum of a term and what `rest` makes of a sum, where `ts` is what it makes of the empty one
abbrev pub merge_in : ℤ → List ℕ → Terms → (Terms → Terms) → Terms → Terms
merge_in c m ts rest end = term c m ts
merge_in c m ts rest (term d n us) = elim (order m n) [ Ordering.lt ↦ term c m (rest (term d n us)) | Ordering.eq ↦ keep (c +ℤ d) m (rest us) | Ordering.gt ↦ term d n (merge_in c m ts rest us) ]

-- The sum of two sorted sums
abbrev pub merge : Terms → Terms → Terms
merge end = λ us. us
merge (term c m ts) = merge_in c m ts (merge ts)

-- A sum, each term multiplied by one term
abbrev pub scale : ℤ → List ℕ → Terms → Terms
scale c m end = end
scale c m (term d n us) = term (c *ℤ d) (join m n) (scale c m us)

-- The product of two sorted sums
abbrev pub multiply : Terms → Terms → Terms
multiply end us = end
multiply (term c m ts) us = merge (scale c m us) (multiply ts us)

-- The sorted sum of an expression
abbrev pub expand : Expr → Terms
expand (var n) = term (pos 1) (n ∷ []) end
expand (con z) = keep z [] end
expand (a ⊕ b) = merge (expand a) (expand b)
expand (a ⊗ b) = multiply (expand a) (expand b)
expand (⊖ a) = scale (negsuc 0) [] (expand a)

-- The sum has no term
abbrev pub empty : Terms → Bool
empty end = true
empty (term c m ts) = false

-- The test: the difference of the two expressions has no term
abbrev pub same : Expr → Expr → Bool
same left right = empty (expand (left ⊕ ⊖ right))

-- Products that are equal in order are equal
order_equal : (m n : List ℕ) → T (compare_is_eq (order m n)) → m ≡ n
order_equal [] [] t = refl
order_equal [] (y ∷ ys) t = absurd t
order_equal (x ∷ xs) [] t = absurd t
order_equal (x ∷ xs) (y ∷ ys) t = by_first (compare x y) refl (order_equal xs ys) t
  where
    by_first : (o : Ordering) → compare x y ≡ o → (T (compare_is_eq (order xs ys)) → xs ≡ ys) → T (compare_is_eq (elim o [ Ordering.lt ↦ Ordering.lt | Ordering.eq ↦ order xs ys | Ordering.gt ↦ Ordering.gt ])) → x ∷ xs ≡ y ∷ ys
    by_first Ordering.lt e tails u = absurd u
    by_first Ordering.eq e tails u = ap₂ ◌∷◌ (eqb→eq x y (subst (λ o. T (compare_is_eq o)) (sym e) tt)) (tails u)
    by_first Ordering.gt e tails u = absurd u

module _ (R : Ring) (values : List R.Carrier) where
  open R use {Carrier, none, one, plus, times, negate, cast, plus_assoc, plus_none, times_assoc, times_one, times_plus, cast_plus, cast_times, cast_none, cast_one}

  -- The value of a product of variables
  abbrev product : List ℕ → Carrier
  product [] = one
  product (x ∷ xs) = times (get_or values x none) (product xs)

  -- The value of a sum of terms
  abbrev sum : Terms → Carrier
  sum end = none
  sum (term c m ts) = plus (times (cast c) (product m)) (sum ts)

  -- Sorting a variable in multiplies by it
  sort_in_product : (x : ℕ) (rest : List ℕ → List ℕ) (p : Carrier) → ((ys : List ℕ) → product (rest ys) ≡ times p (product ys)) → (ys : List ℕ) → product (sort_in x rest ys) ≡ times (times (get_or values x none) p) (product ys)
  sort_in_product x rest p h [] = ap (times (get_or values x none)) (h []) ∙ sym (times_assoc (get_or values x none) p one)
  sort_in_product x rest p h (y ∷ ys) = by_order (compare x y) (sort_in_product x rest p h ys)
    where
      front : times (get_or values x none) (product (rest (y ∷ ys))) ≡ times (times (get_or values x none) p) (product (y ∷ ys))
      front = ap (times (get_or values x none)) (h (y ∷ ys)) ∙ sym (times_assoc (get_or values x none) p (product (y ∷ ys)))

      by_order : (o : Ordering) → product (sort_in x rest ys) ≡ times (times (get_or values x none) p) (product ys) → product (elim o [ Ordering.lt ↦ x ∷ rest (y ∷ ys) | Ordering.eq ↦ x ∷ rest (y ∷ ys) | Ordering.gt ↦ y ∷ sort_in x rest ys ]) ≡ times (times (get_or values x none) p) (product (y ∷ ys))
      by_order Ordering.lt e = front
      by_order Ordering.eq e = front
      by_order Ordering.gt e = ap (times (get_or values y none)) e ∙ Laws.times_swap R (get_or values y none) (times (get_or values x none) p) (product ys)

  -- Joining two products multiplies their values
  join_product : (xs ys : List ℕ) → product (join xs ys) ≡ times (product xs) (product ys)
  join_product [] ys = sym (Laws.one_times R (product ys))
  join_product (x ∷ xs) ys = sort_in_product x (join xs) (product xs) (join_product xs) ys

  -- A term left out for its zero has the value nothing
  keep_sum : (c : ℤ) (m : List ℕ) (ts : Terms) → sum (keep c m ts) ≡ plus (times (cast c) (product m)) (sum ts)
  keep_sum (pos zero) m ts = sym (ap (λ x. plus (times x (product m)) (sum ts)) cast_none ∙ ap (λ x. plus x (sum ts)) (Laws.none_times R (product m)) ∙ Laws.none_plus R (sum ts))
  keep_sum (pos (suc n)) m ts = refl
  keep_sum (negsuc n) m ts = refl

  -- Merging a term in adds it
  merge_in_sum : (c : ℤ) (m : List ℕ) (ts : Terms) (rest : Terms → Terms) → ((us : Terms) → sum (rest us) ≡ plus (sum ts) (sum us)) → (us : Terms) → sum (merge_in c m ts rest us) ≡ plus (sum (term c m ts)) (sum us)
  merge_in_sum c m ts rest h end = sym (plus_none (sum (term c m ts)))
  merge_in_sum c m ts rest h (term d n us) = by_order (order m n) refl (merge_in_sum c m ts rest h us)
    where
      like : m ≡ n → plus (times (cast (c +ℤ d)) (product m)) (sum (rest us)) ≡ plus (sum (term c m ts)) (sum (term d n us))
      like e =
          ap₂ plus (ap (λ x. times x (product m)) (cast_plus c d) ∙ Laws.plus_times R (cast c) (cast d) (product m)) (h us)
          ∙ Laws.plus_exchange R (times (cast c) (product m)) (times (cast d) (product m)) (sum ts) (sum us)
          ∙ ap (λ l. plus (sum (term c m ts)) (sum (term d l us))) e

      by_order : (o : Ordering) → order m n ≡ o → sum (merge_in c m ts rest us) ≡ plus (sum (term c m ts)) (sum us) → sum (elim o [ Ordering.lt ↦ term c m (rest (term d n us)) | Ordering.eq ↦ keep (c +ℤ d) m (rest us) | Ordering.gt ↦ term d n (merge_in c m ts rest us) ]) ≡ plus (sum (term c m ts)) (sum (term d n us))
      by_order Ordering.lt e ih = ap (plus (times (cast c) (product m))) (h (term d n us)) ∙ sym (plus_assoc (times (cast c) (product m)) (sum ts) (sum (term d n us)))
      by_order Ordering.eq e ih = keep_sum (c +ℤ d) m (rest us) ∙ like (order_equal m n (subst (λ o. T (compare_is_eq o)) (sym e) tt))
      by_order Ordering.gt e ih = ap (plus (times (cast d) (product n))) ih ∙ Laws.plus_swap R (times (cast d) (product n)) (sum (term c m ts)) (sum us)

  -- Merging two sums adds their values
  merge_sum : (ts us : Terms) → sum (merge ts us) ≡ plus (sum ts) (sum us)
  merge_sum end us = sym (Laws.none_plus R (sum us))
  merge_sum (term c m ts) us = merge_in_sum c m ts (merge ts) (merge_sum ts) us

  -- Scaling a sum by a term multiplies by its value
  scale_sum : (c : ℤ) (m : List ℕ) (us : Terms) → sum (scale c m us) ≡ times (times (cast c) (product m)) (sum us)
  scale_sum c m end = sym (Laws.times_none R (times (cast c) (product m)))
  scale_sum c m (term d n us) =
      ap₂ plus
      (ap₂ times (cast_times c d) (join_product m n) ∙ Laws.times_exchange R (cast c) (cast d) (product m) (product n))
      (scale_sum c m us)
      ∙ sym (times_plus (times (cast c) (product m)) (times (cast d) (product n)) (sum us))

  -- Multiplying two sums multiplies their values
  multiply_sum : (ts us : Terms) → sum (multiply ts us) ≡ times (sum ts) (sum us)
  multiply_sum end us = sym (Laws.none_times R (sum us))
  multiply_sum (term c m ts) us =
      merge_sum (scale c m us) (multiply ts us) ∙ ap₂ plus (scale_sum c m us) (multiply_sum ts us)
      ∙ sym (Laws.plus_times R (times (cast c) (product m)) (sum ts) (sum us))

  -- An integer in the ring is its cast
  cast_constant : (z : ℤ) → cast z ≡ constant R z
  cast_constant (pos zero) = cast_none
  cast_constant (pos (suc zero)) = cast_one
  cast_constant (pos (suc (suc n))) = refl
  cast_constant (negsuc n) = refl

  -- The term -1 is minus one
  minus_one : times (cast (negsuc 0)) one ≡ negate one
  minus_one = times_one (cast (negsuc 0)) ∙ Laws.cast_negate R (pos 1) ∙ ap negate cast_one

  -- The sorted sum of an expression has the expression's value
  expand_value : (e : Expr) → sum (expand e) ≡ value R values e
  expand_value (var n) = plus_none (times (cast (pos 1)) (times (get_or values n none) one)) ∙ ap₂ times cast_one (times_one (get_or values n none)) ∙ Laws.one_times R (get_or values n none)
  expand_value (con z) = keep_sum z [] end ∙ plus_none (times (cast z) one) ∙ times_one (cast z) ∙ cast_constant z
  expand_value (a ⊕ b) = merge_sum (expand a) (expand b) ∙ ap₂ plus (expand_value a) (expand_value b)
  expand_value (a ⊗ b) = multiply_sum (expand a) (expand b) ∙ ap₂ times (expand_value a) (expand_value b)
  expand_value (⊖ a) =
      scale_sum (negsuc 0) [] (expand a) ∙ ap₂ times minus_one (expand_value a) ∙ Laws.negate_times R one (value R values a)
      ∙ ap negate (Laws.one_times R (value R values a))

  -- A sum with no term is nothing
  empty_sum : (ts : Terms) → T (empty ts) → sum ts ≡ none
  empty_sum end t = refl
  empty_sum (term c m ts) t = absurd t

  -- Expressions that pass the test have the same value
  pub solve : (left right : Expr) → T (same left right) → value R values left ≡ value R values right
  solve left right t = Laws.equal_of_difference R (value R values left) (value R values right) (sym (expand_value (left ⊕ ⊖ right)) ∙ empty_sum (expand (left ⊕ ⊖ right)) t)

-- Equations that are given, each with the expression that multiplies it
pub data Hypotheses (R : Ring) (values : List R.Carrier) : Type 0 where
  done : Hypotheses R values
  given : (factor left right : Expr) → value R values left ≡ value R values right → Hypotheses R values → Hypotheses R values

module _ (R : Ring) (values : List R.Carrier) where
  -- The sum of the differences of the given equations, each multiplied by its expression
  abbrev pub excess : Hypotheses R values → Expr
  excess done = con (pos 0)
  excess (given factor left right e hs) = factor ⊗ (left ⊕ ⊖ right) ⊕ excess hs

  -- That sum is nothing
  excess_none : (hs : Hypotheses R values) → value R values (excess hs) ≡ R.none
  excess_none done = refl
  excess_none (given factor left right e hs) =
      ap₂ R.plus
      (ap (λ x. R.times (value R values factor) (R.plus x (R.negate (value R values right)))) e
      ∙ ap (R.times (value R values factor)) (R.plus_negate (value R values right))
      ∙ Laws.times_none R (value R values factor))
      (excess_none hs)
      ∙ R.plus_none R.none

  -- An equation follows from the given ones if the test passes once they are added to its right side
  pub combine : (hs : Hypotheses R values) (left right : Expr) → T (same left (right ⊕ excess hs)) → value R values left ≡ value R values right
  combine hs left right t = solve R values left (right ⊕ excess hs) t ∙ ap (R.plus (value R values right)) (excess_none hs) ∙ R.plus_none (value R values right)
