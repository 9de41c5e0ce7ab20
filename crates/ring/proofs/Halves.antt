-- What the machine computes of sums, differences and halves of numbers that leave room: the whole numbers themselves.
-- A shift to the right by one is half of a number, rounded down. Assumes nothing.
use mathlib.Core.Path.{◌≡◌, refl, ap, sym, ◌∙◌}
use Prim.Native.Nat.{◌^◌}
use lib.Dec.{lit<}
use lib.IntN.{ℤ, pos, negsuc, ◌+ℤ◌, ◌-ℤ◌}
use lib.Signed.{shr_z, mag_shr}
use mir.Syntax.{w64}
use mir.Val.{SFits}
use mir.ValLaws.{sfits_le}
use mir.Facts.{to_z-of_z}
use Rattle.algebra.specs.Parity.{half}
use Rattle.ring.specs.Bounds.{Bounded}
use Rattle.ring.proofs.Bounds.{stored, known, ◌⊟◌, fits, exact_stored, sum_exact, bounded_fits, bounded_sum, bounded_negation}
use Rattle.ring.specs.Number.{Number}
use Rattle.ring.specs.Real.{number, vector}

shift_half : (z : ℤ) → shr_z z 2 ≡ half z
shift_half (pos n) = refl
shift_half (negsuc n) = refl

-- half of a number that fits
pub half_exact : {z : ℤ} → SFits w64 z → stored (shr_z (stored z) 2) ≡ half z
half_exact {z} f = ap (λ (x : ℤ). stored (shr_z x 2)) (to_z-of_z f) ∙ to_z-of_z (sfits_le (mag_shr z 2) f) ∙ shift_half z

module _ {x y : ℤ} (h : Bounded (2 ^ 61) x) (k : Bounded (2 ^ 61) y) where
  pub difference_fits : SFits w64 (stored x -ℤ stored y)
  difference_fits = fits (known h ⊟ known k) (lit< tt, lit< tt, lit< tt)

  pub difference_exact : stored (stored x -ℤ stored y) ≡ x -ℤ y
  difference_exact = exact_stored (known h ⊟ known k) (lit< tt, lit< tt, lit< tt)

  -- half of a sum, and of a difference
  pub half_sum_exact : stored (shr_z (stored (stored x +ℤ stored y)) 2) ≡ half (x +ℤ y)
  half_sum_exact =
      ap (λ (z : ℤ). stored (shr_z z 2)) (sum_exact h k ∙ sym (to_z-of_z sum_fits)) ∙ half_exact sum_fits
    where
      sum_fits : SFits w64 (x +ℤ y)
      sum_fits = bounded_fits (bounded_sum h k) (lit< tt)

  pub half_difference_exact : stored (shr_z (stored (stored x -ℤ stored y)) 2) ≡ half (x -ℤ y)
  half_difference_exact =
      ap (λ (z : ℤ). stored (shr_z z 2)) (difference_exact ∙ sym (to_z-of_z small)) ∙ half_exact small
    where
      small : SFits w64 (x -ℤ y)
      small = bounded_fits (bounded_sum h (bounded_negation k)) (lit< tt)

-- numbers with equal parts are equal
pub equal_parts : {a b a' b' : ℤ} → a ≡ a' → b ≡ b' → number a b ≡ number a' b'
equal_parts p q = λ i. number (p i) (q i)

-- and so are vectors with equal numbers
pub equal_vectors : {x y z x' y' z' : Number} → x ≡ x' → y ≡ y' → z ≡ z' → vector x y z ≡ vector x' y' z'
equal_vectors p q r = λ i. vector (p i) (q i) (r i)
