-- What may be cancelled in the integers: a product is zero only where a factor is, so a factor that is not zero may be cancelled.
-- A sum of four squares is zero only where all four numbers are. Assumes nothing.
use mathlib.Core.Path.{◌≡◌, refl, sym, ◌∙◌, ap, ap₂}
use mathlib.Core.List.{[], ◌∷◌}
use mathlib.Core.Logic.{◌⊎◌, inl, inr, ◌≢◌}
use Prim.Native.Nat.{ℕ, zero, suc, ◌+◌, ◌*◌}
use native.Mathlib.Nat.{mul-suc}
use native.Mathlib.Omega.{arith}
use lib.IntN.{ℤ, pos, negsuc, ◌+ℤ◌, ◌*ℤ◌, neg_ℤ, nat_abs, +ℤ_invr}
use Rattle.algebra.proofs.Ring.{equal_of_difference}
use Rattle.algebra.proofs.Whole.{whole}
use Rattle.algebra.proofs.Solver.{var, con, ◌⊕◌, ◌⊗◌, ⊖◌, solve}

-- The size of a number is that of its negation
size_negate : (a : ℤ) → nat_abs (neg_ℤ a) ≡ nat_abs a
size_negate (pos zero) = refl
size_negate (pos (suc n)) = refl
size_negate (negsuc n) = refl

-- The size of a product is the product of the sizes
pub size_times : (a b : ℤ) → nat_abs (a *ℤ b) ≡ nat_abs a * nat_abs b
size_times (pos a) (pos b) = refl
size_times (pos a) (negsuc b) = size_negate (pos (a * suc b))
size_times (negsuc a) (pos b) = size_negate (pos (suc a * b))
size_times (negsuc a) (negsuc b) = refl

-- A number of size zero is zero
pub size_zero : (a : ℤ) → nat_abs a ≡ 0 → a ≡ pos 0
size_zero (pos n) e = ap pos e
size_zero (negsuc n) e = absurd (omega arith)

-- A product of natural numbers is zero only where a factor is
natural_factor : (m n : ℕ) → m * n ≡ 0 → (m ≡ 0) ⊎ (n ≡ 0)
natural_factor zero n e = inl refl
natural_factor (suc m) zero e = inr refl
natural_factor (suc m) (suc n) e = absurd (omega (arith, mul-suc (suc m) n))

-- A product of integers is zero only where a factor is
pub zero_factor : (a b : ℤ) → a *ℤ b ≡ pos 0 → (a ≡ pos 0) ⊎ (b ≡ pos 0)
zero_factor a b e = by_size (natural_factor (nat_abs a) (nat_abs b) (sym (size_times a b) ∙ ap nat_abs e))
  where
    by_size : (nat_abs a ≡ 0) ⊎ (nat_abs b ≡ 0) → (a ≡ pos 0) ⊎ (b ≡ pos 0)
    by_size (inl h) = inl (size_zero a h)
    by_size (inr h) = inr (size_zero b h)

-- A factor that is not zero may be cancelled
pub times_cancel : (c a b : ℤ) → c ≢ pos 0 → c *ℤ a ≡ c *ℤ b → a ≡ b
times_cancel c a b nonzero e = by_factor (zero_factor c (a +ℤ neg_ℤ b) product)
  where
    product : c *ℤ (a +ℤ neg_ℤ b) ≡ pos 0
    product =
        solve whole (c ∷ a ∷ b ∷ []) (var 0 ⊗ (var 1 ⊕ ⊖ var 2)) (var 0 ⊗ var 1 ⊕ ⊖ (var 0 ⊗ var 2)) tt
        ∙ ap (λ x. x +ℤ neg_ℤ (c *ℤ b)) e ∙ +ℤ_invr (c *ℤ b)

    by_factor : (c ≡ pos 0) ⊎ (a +ℤ neg_ℤ b ≡ pos 0) → a ≡ b
    by_factor (inl h) = absurd (nonzero h)
    by_factor (inr h) = equal_of_difference whole a b h

-- A positive numeral may be cancelled
pub positive_cancel : (n : ℕ) (a b : ℤ) → pos (suc n) *ℤ a ≡ pos (suc n) *ℤ b → a ≡ b
positive_cancel n a b e = times_cancel (pos (suc n)) a b (λ h. let z : suc n ≡ 0 = ap nat_abs h in omega arith) e

-- Twice the same number is so for one number only
pub double_cancel : (a b : ℤ) → a +ℤ a ≡ b +ℤ b → a ≡ b
double_cancel a b e = positive_cancel 1 a b (twice a ∙ e ∙ sym (twice b))
  where
    twice : (c : ℤ) → pos 2 *ℤ c ≡ c +ℤ c
    twice c = solve whole (c ∷ []) (con (pos 2) ⊗ var 0) (var 0 ⊕ var 0) tt

-- A square is the square of the size
pub square_size : (a : ℤ) → a *ℤ a ≡ pos (nat_abs a * nat_abs a)
square_size (pos n) = refl
square_size (negsuc n) = refl

-- A number whose size has the square zero is zero
square_size_zero : (a : ℤ) → nat_abs a * nat_abs a ≡ 0 → a ≡ pos 0
square_size_zero a e = by_factor (natural_factor (nat_abs a) (nat_abs a) e)
  where
    by_factor : (nat_abs a ≡ 0) ⊎ (nat_abs a ≡ 0) → a ≡ pos 0
    by_factor (inl h) = size_zero a h
    by_factor (inr h) = size_zero a h

-- Only zero has the square zero
pub square_zero : (a : ℤ) → a *ℤ a ≡ pos 0 → a ≡ pos 0
square_zero a e = square_size_zero a (sym (ap nat_abs (square_size a)) ∙ ap nat_abs e)

-- Four squares add up to zero only where all four numbers are zero
pub four_squares_zero : (a b c d : ℤ) → a *ℤ a +ℤ b *ℤ b +ℤ c *ℤ c +ℤ d *ℤ d ≡ pos 0 → (a ≡ pos 0) × (b ≡ pos 0) × (c ≡ pos 0) × (d ≡ pos 0)
four_squares_zero a b c d e =
    let total : nat_abs a * nat_abs a + nat_abs b * nat_abs b + nat_abs c * nat_abs c + nat_abs d * nat_abs d ≡ 0 = ap nat_abs sizes in
    (square_size_zero a (omega arith), square_size_zero b (omega arith), square_size_zero c (omega arith), square_size_zero d (omega arith))
  where
    sizes : pos (nat_abs a * nat_abs a + nat_abs b * nat_abs b + nat_abs c * nat_abs c + nat_abs d * nat_abs d) ≡ pos 0
    sizes = sym (ap₂ ◌+ℤ◌ (ap₂ ◌+ℤ◌ (ap₂ ◌+ℤ◌ (square_size a) (square_size b)) (square_size c)) (square_size d)) ∙ e
