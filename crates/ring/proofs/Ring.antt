-- Z[ω] is a commutative ring, and conjugation respects its sum and product. Assumes nothing.
use mathlib.Core.Path.{◌≡◌, refl, ap₂, ◌∙◌}
use mathlib.Core.List.{[], ◌∷◌}
use Prim.Native.Nat.{ℕ}
use lib.IntN.{ℤ, pos, ◌+ℤ◌, ◌*ℤ◌}
use Rattle.algebra.proofs.Ring.{Ring}
use Rattle.algebra.proofs.Solver.{Expr, var, con, ◌⊕◌, ◌⊗◌, ⊖◌}
use Rattle.ring.specs.declared.Element.{Element}
use Rattle.ring.specs.Element.{element, nothing, one, root2, sum, negation, multiple, turned, product, conjugate, size_whole, size_root2}
use Rattle.ring.proofs.Formal.{◌+ᶠ◌, ◌*ᶠ◌, -ᶠ◌, conjugateᶠ, wholeᶠ, root2ᶠ, xᶠ, yᶠ, zᶠ, coefficients, coefficientwise}

pub sum_assoc : (x y z : Element) → sum (sum x y) z ≡ sum x (sum y z)
unfolding sum
sum_assoc x y z = coefficientwise (coefficients (x ∷ y ∷ z ∷ [])) (xᶠ +ᶠ yᶠ +ᶠ zᶠ) (xᶠ +ᶠ (yᶠ +ᶠ zᶠ)) (tt, tt, tt, tt)

pub sum_comm : (x y : Element) → sum x y ≡ sum y x
unfolding sum
sum_comm x y = coefficientwise (coefficients (x ∷ y ∷ [])) (xᶠ +ᶠ yᶠ) (yᶠ +ᶠ xᶠ) (tt, tt, tt, tt)

pub sum_nothing : (x : Element) → sum x nothing ≡ x
unfolding sum nothing
sum_nothing x = coefficientwise (coefficients (x ∷ [])) (xᶠ +ᶠ wholeᶠ (con (pos 0))) xᶠ (tt, tt, tt, tt)

pub sum_negation : (x : Element) → sum x (negation x) ≡ nothing
unfolding sum negation nothing
sum_negation x = coefficientwise (coefficients (x ∷ [])) (xᶠ +ᶠ (-ᶠ xᶠ)) (wholeᶠ (con (pos 0))) (tt, tt, tt, tt)

pub product_assoc : (x y z : Element) → product (product x y) z ≡ product x (product y z)
unfolding product sum multiple turned
product_assoc x y z = coefficientwise (coefficients (x ∷ y ∷ z ∷ [])) (xᶠ *ᶠ yᶠ *ᶠ zᶠ) (xᶠ *ᶠ (yᶠ *ᶠ zᶠ)) (tt, tt, tt, tt)

pub product_comm : (x y : Element) → product x y ≡ product y x
unfolding product sum multiple turned
product_comm x y = coefficientwise (coefficients (x ∷ y ∷ [])) (xᶠ *ᶠ yᶠ) (yᶠ *ᶠ xᶠ) (tt, tt, tt, tt)

pub product_one : (x : Element) → product x one ≡ x
unfolding product sum multiple turned one
product_one x = coefficientwise (coefficients (x ∷ [])) (xᶠ *ᶠ wholeᶠ (con (pos 1))) xᶠ (tt, tt, tt, tt)

pub product_sum : (x y z : Element) → product x (sum y z) ≡ sum (product x y) (product x z)
unfolding product sum multiple turned
product_sum x y z = coefficientwise (coefficients (x ∷ y ∷ z ∷ [])) (xᶠ *ᶠ (yᶠ +ᶠ zᶠ)) (xᶠ *ᶠ yᶠ +ᶠ xᶠ *ᶠ zᶠ) (tt, tt, tt, tt)

-- a whole number as an element
abbrev pub whole_element : ℤ → Element
whole_element n = element n (pos 0) (pos 0) (pos 0)

pub whole_sum : (m n : ℤ) → whole_element (m +ℤ n) ≡ sum (whole_element m) (whole_element n)
unfolding sum
whole_sum m n = coefficientwise (m ∷ n ∷ []) (wholeᶠ (var 0 ⊕ var 1)) (wholeᶠ (var 0) +ᶠ wholeᶠ (var 1)) (tt, tt, tt, tt)

pub whole_product : (m n : ℤ) → whole_element (m *ℤ n) ≡ product (whole_element m) (whole_element n)
unfolding product sum multiple turned
whole_product m n = coefficientwise (m ∷ n ∷ []) (wholeᶠ (var 0 ⊗ var 1)) (wholeᶠ (var 0) *ᶠ wholeᶠ (var 1)) (tt, tt, tt, tt)

pub whole_is_nothing : whole_element (pos 0) ≡ nothing
unfolding nothing
whole_is_nothing = refl

pub whole_is_one : whole_element (pos 1) ≡ one
unfolding one
whole_is_one = refl

-- the ring of the elements, for the solver
abbrev pub elements : Ring
elements = record {
  Carrier = Element;
  none = nothing;
  one = one;
  plus = sum;
  times = product;
  negate = negation;
  cast = whole_element;
  plus_assoc = sum_assoc;
  plus_comm = sum_comm;
  plus_none = sum_nothing;
  plus_negate = sum_negation;
  times_assoc = product_assoc;
  times_comm = product_comm;
  times_one = product_one;
  times_plus = product_sum;
  cast_plus = whole_sum;
  cast_times = whole_product;
  cast_none = whole_is_nothing;
  cast_one = whole_is_one;
}

-- conjugation respects the sum, the product and the sign, and undoes itself
pub conjugate_sum : (x y : Element) → conjugate (sum x y) ≡ sum (conjugate x) (conjugate y)
unfolding conjugate sum
conjugate_sum x y = coefficientwise (coefficients (x ∷ y ∷ [])) (conjugateᶠ (xᶠ +ᶠ yᶠ)) (conjugateᶠ xᶠ +ᶠ conjugateᶠ yᶠ) (tt, tt, tt, tt)

pub conjugate_product : (x y : Element) → conjugate (product x y) ≡ product (conjugate x) (conjugate y)
unfolding conjugate product sum multiple turned
conjugate_product x y = coefficientwise (coefficients (x ∷ y ∷ [])) (conjugateᶠ (xᶠ *ᶠ yᶠ)) (conjugateᶠ xᶠ *ᶠ conjugateᶠ yᶠ) (tt, tt, tt, tt)

pub conjugate_negation : (x : Element) → conjugate (negation x) ≡ negation (conjugate x)
unfolding conjugate negation
conjugate_negation x = coefficientwise (coefficients (x ∷ [])) (conjugateᶠ (-ᶠ xᶠ)) (-ᶠ conjugateᶠ xᶠ) (tt, tt, tt, tt)

pub conjugate_conjugate : (x : Element) → conjugate (conjugate x) ≡ x
unfolding conjugate
conjugate_conjugate x = coefficientwise (coefficients (x ∷ [])) (conjugateᶠ (conjugateᶠ xᶠ)) xᶠ (tt, tt, tt, tt)

-- also a row times a column
pub conjugate_dot : (x y u v : Element) →
    conjugate (sum (product x u) (product y v)) ≡ sum (product (conjugate x) (conjugate u)) (product (conjugate y) (conjugate v))
conjugate_dot x y u v = conjugate_sum (product x u) (product y v) ∙ ap₂ sum (conjugate_product x u) (conjugate_product y v)

pub conjugate_nothing : conjugate nothing ≡ nothing
unfolding conjugate nothing
conjugate_nothing = refl

pub conjugate_one : conjugate one ≡ one
unfolding conjugate one
conjugate_one = refl

-- "The squared size": an element times its conjugate is its whole part and √2 times its √2 part
pub size_is_product : (x : Element) → product x (conjugate x) ≡ sum (whole_element (size_whole x)) (product (whole_element (size_root2 x)) root2)
unfolding product sum multiple turned conjugate size_whole size_root2 root2
size_is_product x =
    coefficientwise (coefficients (x ∷ [])) (xᶠ *ᶠ conjugateᶠ xᶠ)
    (wholeᶠ (square 0 ⊕ square 1 ⊕ square 2 ⊕ square 3)
    +ᶠ wholeᶠ (var 0 ⊗ var 1 ⊕ var 1 ⊗ var 2 ⊕ var 2 ⊗ var 3 ⊕ ⊖ (var 3 ⊗ var 0)) *ᶠ root2ᶠ)
    (tt, tt, tt, tt)
  where
    square : ℕ → Expr
    square n = var n ⊗ var n
