-- The limits on coefficients: what the test says, and what a search for a wide one tells. Assumes nothing.
use mathlib.Core.Path.{◌≡◌, refl, sym, ◌∙◌, ap}
use mathlib.Core.Bool.{Bool, true, false, not, ◌&&◌, false≢true}
use Prim.Native.Nat.{ℕ}
use native.Mathlib.Omega.{arith}
use borrow.Author.Tests.{leb-true, leb-false, le-ltb, lt-ltb}
use lib.Dec.{leb, ltb}
use lib.IntN.{ℤ, pos, negsuc, neg_ℤ}
use lib.Signed.{lt_z, le_z}
use Rattle.ring.specs.Bounds.{Bounded}
use Rattle.answer.specs.Limits.{coefficient_limit}
use Rattle.accept_record.specs.Accept.{in_limit}

-- ---- the test
not_below : (a b : ℕ) → leb a b ≡ not (ltb b a)
not_below a b = by (leb a b) refl
  where
    by : (t : Bool) → leb a b ≡ t → t ≡ not (ltb b a)
    by true e = sym (ap not (le-ltb b a (leb-true a b e)))
    by false e = sym (ap not (lt-ltb b a (leb-false a b e)))

at_least : (a b : ℤ) → le_z a b ≡ not (lt_z b a)
at_least (pos a) (pos b) = not_below a b
at_least (pos a) (negsuc b) = refl
at_least (negsuc a) (pos b) = refl
at_least (negsuc a) (negsuc b) = not_below b a

-- the test by two comparisons, as the code has it
pub in_limit_below : (z : ℤ) → lt_z z (neg_ℤ (pos coefficient_limit)) ≡ true → in_limit z ≡ false
unfolding in_limit
in_limit_below z e = ap (λ (t : Bool). t && le_z z (pos coefficient_limit)) (at_least (neg_ℤ (pos coefficient_limit)) z ∙ ap not e)

pub in_limit_above : (z : ℤ) → lt_z z (neg_ℤ (pos coefficient_limit)) ≡ false → in_limit z ≡ le_z z (pos coefficient_limit)
unfolding in_limit
in_limit_above z e = ap (λ (t : Bool). t && le_z z (pos coefficient_limit)) (at_least (neg_ℤ (pos coefficient_limit)) z ∙ ap not e)

and_left : (a b : Bool) → a && b ≡ true → a ≡ true
and_left true b e = refl
and_left false b e = e

and_right : (a b : Bool) → a && b ≡ true → b ≡ true
and_right true b e = e
and_right false b e = absurd (false≢true e)

-- a number in the limit is bounded by it
pub bounded_in_limit : (z : ℤ) → in_limit z ≡ true → Bounded coefficient_limit z
unfolding in_limit
bounded_in_limit (pos n) e = record { size = leb-true n coefficient_limit (and_right true _ e) }
bounded_in_limit (negsuc n) e = record { size = omega (arith, leb-true n _ (and_left _ true e)) }
