-- Machine integers halved, and their remainder by two: a double's half is exact, and the remainder tells oddness.
-- Assumes nothing.
use mathlib.Core.Path.{◌≡◌, refl, sym, ◌∙◌, ap, subst}
use Prim.Native.Nat.{ℕ, zero, suc, ◌+◌, ◌/◌, ◌%◌, ◌^◌, ◌<◌}
use native.Mathlib.Omega.{arith}
use mathlib.Core.Bool.{not}
use lib.Dec.{lit<, eqb}
use lib.IntN.{ℤ, pos, negsuc, ◌+ℤ◌, neg_ℤ}
use lib.Signed.{mag, quot_z, rem_z}
use mir.Syntax.{w64}
use mir.Val.{SFits, of_z}
use mir.Facts.{to_z-of_z}
use Rattle.algebra.specs.Parity.{odd}
use Rattle.algebra.proofs.Parity.{odd_suc}
use Rattle.ring.specs.declared.Element.{Element}
use Rattle.ring.specs.Element.{element, sum}
use Rattle.ring.specs.Divided.{Double}
use Rattle.ring.specs.Bounds.{Bounded}
use Rattle.ring.proofs.Bounds.{stored, bounded_fits, bounded_negation, equal_coefficients}

quotient_bounded : (z : ℤ) → mag z < 2 ^ 63 → Bounded (2 ^ 62) (quot_z z (pos 2))
quotient_bounded (pos n) h = record { size = omega arith }
quotient_bounded (negsuc n) h = bounded_negation {x = pos (suc n / 2)} (record { size = omega arith })

-- half of a number fits
pub half_fits : {z : ℤ} → SFits w64 z → (0 < 2) × SFits w64 (quot_z (stored z) (pos 2))
half_fits {z} h =
    (lit< tt, subst (λ (x : ℤ). SFits w64 (quot_z x (pos 2))) (sym (to_z-of_z h)) (bounded_fits (quotient_bounded z h.sfits) (lit< tt)))

half_of_double : (h : ℤ) → quot_z (h +ℤ h) (pos 2) ≡ h
half_of_double (pos n) = ap pos (omega arith)
half_of_double (negsuc n) = ap (λ (k : ℕ). neg_ℤ (pos k)) halved
  where
    halved : suc (suc (n + n)) / 2 ≡ suc n
    halved = omega arith

-- half of a double is what was doubled
pub half_exact : {z : ℤ} (h : ℤ) → SFits w64 z → h +ℤ h ≡ z → stored (quot_z (stored z) (pos 2)) ≡ h
half_exact {z} h f e =
    ap stored quotient
    ∙ to_z-of_z (subst (SFits w64) quotient (half_fits f).1)
  where
    quotient : quot_z (stored z) (pos 2) ≡ h
    quotient = ap (λ (x : ℤ). quot_z x (pos 2)) (to_z-of_z f ∙ sym e) ∙ half_of_double h

-- the half of each coefficient, as the machine has it
abbrev halves : Element → Element
halves x =
    element (stored (quot_z (stored x.a0) (pos 2))) (stored (quot_z (stored x.a1) (pos 2)))
    (stored (quot_z (stored x.a2) (pos 2))) (stored (quot_z (stored x.a3) (pos 2)))

-- a double's halves doubled are the element
pub halves_doubled :
    {x : Element} → Double x → SFits w64 x.a0 → SFits w64 x.a1 → SFits w64 x.a2 → SFits w64 x.a3 → sum (halves x) (halves x) ≡ x
unfolding sum
halves_doubled {x} d f0 f1 f2 f3 =
    ap (λ (y : Element). sum y y)
    (equal_coefficients
    (half_exact d.half.a0 f0 (ap (λ (y : Element). y.a0) doubles)) (half_exact d.half.a1 f1 (ap (λ (y : Element). y.a1) doubles))
    (half_exact d.half.a2 f2 (ap (λ (y : Element). y.a2) doubles)) (half_exact d.half.a3 f3 (ap (λ (y : Element). y.a3) doubles)))
    ∙ d.doubled
  where
    doubles : element (d.half.a0 +ℤ d.half.a0) (d.half.a1 +ℤ d.half.a1) (d.half.a2 +ℤ d.half.a2) (d.half.a3 +ℤ d.half.a3) ≡ x
    doubles = d.doubled

-- a remainder by two is not 0 where it is 1
remainder_bit : (r : ℕ) → r < 2 → not (eqb r 0) ≡ eqb r 1
remainder_bit zero h = refl
remainder_bit (suc zero) h = refl
remainder_bit (suc (suc r)) h = absurd (omega arith)

negated_bit : (r : ℕ) → r < 2 → not (eqb (of_z w64 (neg_ℤ (pos r))) 0) ≡ eqb r 1
negated_bit zero h = refl
negated_bit (suc zero) h = refl
negated_bit (suc (suc r)) h = absurd (omega arith)

remainder_odd : (z : ℤ) → not (eqb (of_z w64 (rem_z z (pos 2))) 0) ≡ odd z
remainder_odd (pos n) = remainder_bit (n % 2) (omega arith)
remainder_odd (negsuc n) = negated_bit (suc n % 2) (omega arith) ∙ odd_suc (pos n)

-- a number is odd where its remainder by two is not 0
pub odd_exact : {z : ℤ} → SFits w64 z → not (eqb (of_z w64 (rem_z (stored z) (pos 2))) 0) ≡ odd z
odd_exact {z} f = ap (λ (x : ℤ). not (eqb (of_z w64 (rem_z x (pos 2))) 0)) (to_z-of_z f) ∙ remainder_odd z
