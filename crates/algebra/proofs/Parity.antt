-- Integers modulo two: oddness is a map of rings onto the two bits, so an equation between expressions may be read modulo two.
-- An even integer is twice its half. Assumes nothing.
use mathlib.Core.Path.{◌≡◌, refl, sym, ◌∙◌, ap, ap₂}
use mathlib.Core.Bool.{Bool, true, false, not, ◌&&◌, true≢false, false≢true}
use mathlib.Core.List.{List, map}
use mathlib.Core.Logic.{◌⊎◌, inl, inr}
use Prim.Native.Nat.{ℕ, zero, suc, ◌%◌, ◌<◌}
use native.Mathlib.Omega.{arith}
use lib.Dec.{eqb}
use lib.IntN.{ℤ, pos, negsuc, suc_ℤ, pred_ℤ, ◌+ℤ◌, ◌*ℤ◌, neg_ℤ, +ℤ_idl, suc_ℤ-+ℤ, pred_ℤ-+ℤ, suc_ℤ-*ℤ, pred_ℤ-*ℤ, zero-*ℤ, suc-pred}
use Rattle.algebra.specs.Parity.{odd_natural, odd, half}
use Rattle.algebra.proofs.Ring.{Ring}
use Rattle.algebra.proofs.Whole.{whole, up_and_down}
use Rattle.algebra.proofs.Solver.{Expr, value}
use Rattle.algebra.proofs.Hom.{Hom, value_hom}

-- The sum of two bits: they differ
abbrev pub differ : Bool → Bool → Bool
differ false b = b
differ true b = not b

-- ---- the laws of two bits
-- The sum of two bits is associative
pub differ_assoc : (a b c : Bool) → differ (differ a b) c ≡ differ a (differ b c)
differ_assoc false b c = refl
differ_assoc true false c = refl
differ_assoc true true false = refl
differ_assoc true true true = refl

-- The sum of two bits is commutative
pub differ_comm : (a b : Bool) → differ a b ≡ differ b a
differ_comm false false = refl
differ_comm false true = refl
differ_comm true false = refl
differ_comm true true = refl

-- No bit differs from false
pub differ_false : (a : Bool) → differ a false ≡ a
differ_false false = refl
differ_false true = refl

-- No bit differs from itself
pub differ_same : (a : Bool) → differ a a ≡ false
differ_same false = refl
differ_same true = refl

-- The product of two bits is associative
pub and_assoc : (a b c : Bool) → a && b && c ≡ a && (b && c)
and_assoc false b c = refl
and_assoc true b c = refl

-- The product of two bits is commutative
pub and_comm : (a b : Bool) → a && b ≡ b && a
and_comm false false = refl
and_comm false true = refl
and_comm true false = refl
and_comm true true = refl

-- True may be multiplied on the right
pub and_true : (a : Bool) → a && true ≡ a
and_true false = refl
and_true true = refl

-- The product of bits distributes over their sum
pub and_differ : (a b c : Bool) → a && differ b c ≡ differ (a && b) (a && c)
and_differ false b c = refl
and_differ true b c = refl

-- One more in the first factor
not_and : (a b : Bool) → differ (a && b) b ≡ not a && b
not_and false b = refl
not_and true b = differ_same b

-- One more in the first summand
not_differ : (a b : Bool) → not (differ a b) ≡ differ (not a) b
not_differ false b = refl
not_differ true false = refl
not_differ true true = refl

-- Not, twice
not_not : (a : Bool) → not (not a) ≡ a
not_not false = refl
not_not true = refl

-- ---- oddness
-- A remainder by two is zero or one
remainder : (n : ℕ) → (n % 2 ≡ 0) ⊎ (n % 2 ≡ 1)
remainder n = by_size (n % 2) (omega arith)
  where
    by_size : (r : ℕ) → r < 2 → (r ≡ 0) ⊎ (r ≡ 1)
    by_size zero h = inl refl
    by_size (suc zero) h = inr refl
    by_size (suc (suc r)) h = absurd (omega arith)

-- The next natural number is odd where this one is not
odd_natural_suc : (n : ℕ) → odd_natural (suc n) ≡ not (odd_natural n)
odd_natural_suc n = by_remainder (remainder n)
  where
    by_remainder : (n % 2 ≡ 0) ⊎ (n % 2 ≡ 1) → odd_natural (suc n) ≡ not (odd_natural n)
    by_remainder (inl e) = let next : suc n % 2 ≡ 1 = omega arith in ap (λ r. eqb r 1) next ∙ sym (ap (λ r. not (eqb r 1)) e)
    by_remainder (inr e) = let next : suc n % 2 ≡ 0 = omega arith in ap (λ r. eqb r 1) next ∙ sym (ap (λ r. not (eqb r 1)) e)

-- The successor is odd where the integer is not
pub odd_suc : (k : ℤ) → odd (suc_ℤ k) ≡ not (odd k)
odd_suc (pos n) = odd_natural_suc n
odd_suc (negsuc zero) = refl
odd_suc (negsuc (suc n)) = sym (not_not (odd_natural (suc n)) ∙ odd_natural_suc n)

-- The predecessor is odd where the integer is not
pub odd_pred : (k : ℤ) → odd (pred_ℤ k) ≡ not (odd k)
odd_pred k = sym (not_not (odd (pred_ℤ k))) ∙ ap not (sym (odd_suc (pred_ℤ k)) ∙ ap odd (suc-pred k))

-- A sum is odd where just one summand is
pub odd_plus : (a b : ℤ) → odd (a +ℤ b) ≡ differ (odd a) (odd b)
odd_plus a b =
    up_and_down (λ k. odd (k +ℤ b) ≡ differ (odd k) (odd b))
    (ap odd (+ℤ_idl b))
    (λ k e. ap odd (suc_ℤ-+ℤ k b) ∙ odd_suc (k +ℤ b) ∙ ap not e ∙ not_differ (odd k) (odd b) ∙ ap (λ x. differ x (odd b)) (sym (odd_suc k)))
    (λ k e. ap odd (pred_ℤ-+ℤ k b) ∙ odd_pred (k +ℤ b) ∙ ap not e ∙ not_differ (odd k) (odd b) ∙ ap (λ x. differ x (odd b)) (sym (odd_pred k)))
    a

-- A sign changes no oddness
pub odd_negate : (a : ℤ) → odd (neg_ℤ a) ≡ odd a
odd_negate (pos zero) = refl
odd_negate (pos (suc n)) = sym (odd_natural_suc n)
odd_negate (negsuc n) = odd_natural_suc n

-- A product is odd where both factors are
pub odd_times : (a b : ℤ) → odd (a *ℤ b) ≡ odd a && odd b
odd_times a b =
    up_and_down (λ k. odd (k *ℤ b) ≡ odd k && odd b)
    (ap odd (zero-*ℤ b))
    (λ k e. ap odd (suc_ℤ-*ℤ k b) ∙ odd_plus (k *ℤ b) b ∙ ap (λ x. differ x (odd b)) e ∙ not_and (odd k) (odd b) ∙ ap (λ x. x && odd b) (sym (odd_suc k)))
    (λ k e. ap odd (pred_ℤ-*ℤ k b) ∙ odd_plus (k *ℤ b) (neg_ℤ b) ∙ ap₂ differ e (odd_negate b) ∙ not_and (odd k) (odd b) ∙ ap (λ x. x && odd b) (sym (odd_pred k)))
    a

-- The ring of two bits: false is zero, true is one
abbrev pub bits : Ring
bits = record {
  Carrier = Bool;
  none = false;
  one = true;
  plus = differ;
  times = ◌&&◌;
  negate = λ a. a;
  cast = odd;
  plus_assoc = differ_assoc;
  plus_comm = differ_comm;
  plus_none = differ_false;
  plus_negate = differ_same;
  times_assoc = and_assoc;
  times_comm = and_comm;
  times_one = and_true;
  times_plus = and_differ;
  cast_plus = odd_plus;
  cast_times = odd_times;
  cast_none = refl;
  cast_one = refl;
}

-- Oddness is a map of rings
abbrev pub parity : Hom whole bits
parity = record { image = odd; image_plus = odd_plus; image_times = odd_times; image_cast = λ m. refl }

-- The oddness of an expression's value is its value at the oddness of the variables
pub odd_value : (values : List ℤ) (e : Expr) → odd (value whole values e) ≡ value bits (map odd values) e
odd_value values e = value_hom whole bits parity values e

-- An equation between expressions, read modulo two
pub odd_equation : (values : List ℤ) (left right : Expr) → value whole values left ≡ value whole values right → value bits (map odd values) left ≡ value bits (map odd values) right
odd_equation values left right e = sym (odd_value values left) ∙ ap odd e ∙ odd_value values right

-- A double is even
pub odd_double : (z : ℤ) → odd (z +ℤ z) ≡ false
odd_double z = odd_plus z z ∙ differ_same (odd z)

-- A natural number that is not odd leaves no remainder
even_remainder : (n : ℕ) → odd_natural n ≡ false → n % 2 ≡ 0
even_remainder n e = by_remainder (remainder n)
  where
    by_remainder : (n % 2 ≡ 0) ⊎ (n % 2 ≡ 1) → n % 2 ≡ 0
    by_remainder (inl r) = r
    by_remainder (inr r) = absurd (true≢false (sym (ap (λ x. eqb x 1) r) ∙ e))

-- A natural number that is odd leaves the remainder one
odd_remainder : (n : ℕ) → odd_natural n ≡ true → n % 2 ≡ 1
odd_remainder n e = by_remainder (remainder n)
  where
    by_remainder : (n % 2 ≡ 0) ⊎ (n % 2 ≡ 1) → n % 2 ≡ 1
    by_remainder (inl r) = absurd (false≢true (sym (ap (λ x. eqb x 1) r) ∙ e))
    by_remainder (inr r) = r

-- Where not is known, the bit is known
not_known : (a b : Bool) → not a ≡ b → a ≡ not b
not_known a b e = sym (not_not a) ∙ ap not e

-- An even integer is twice its half
pub even_half : (z : ℤ) → odd z ≡ false → z ≡ half z +ℤ half z
even_half (pos n) e = let r : n % 2 ≡ 0 = even_remainder n e in ap pos (omega arith)
even_half (negsuc n) e = let r : n % 2 ≡ 1 = odd_remainder n (not_known (odd_natural n) false e) in ap negsuc (omega arith)
