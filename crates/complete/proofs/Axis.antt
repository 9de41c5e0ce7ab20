-- At exponent 0 the vector is an axis or its opposite: one numerator is 1 or −1 and the others are zero. S off the left
-- brings it from the y axis, H from the x axis, and X from −z, so that at the end it is +z. Assumes nothing.
use mathlib.Core.Path.{◌≡◌, refl, ap, ap₂, sym, ◌∙◌}
use mathlib.Core.Bool.{Bool, true, false, cond, ◌&&◌, true≢false, false≢true}
use Prim.Native.Nat.{ℕ, zero, suc, ◌+◌, ◌≤◌}
use native.Mathlib.Nat.{mul-suc}
use native.Mathlib.Omega.{arith}
use lib.IntN.{ℤ, pos, negsuc, neg_ℤ}
use lib.Dec.{leb-suc-zero}
use lib.Signed.{lt_z}
use Rattle.algebra.specs.Parity.{odd}
use Rattle.algebra.proofs.Parity.{odd_times, odd_negate}
use Rattle.algebra.proofs.Cancellation.{square_size, square_zero}
use Rattle.matrix.specs.Letter.{H, S, X}
use Rattle.matrix.proofs.Small.{square}
use Rattle.ring.specs.declared.Vector.{Vector}
use Rattle.complete.specs.declared.Rest.{Rest}
use Rattle.ring.specs.Real.{number, negated}
use Rattle.complete.specs.Vector.{Guided}
use Rattle.complete.specs.Descent.{without_S, without_H, without_X, odd_x, odd_y, off_y, off_x, downward, turned_up, axis_taken, upright, vector_without_S, vector_without_H, vector_without_X}
use Rattle.complete.proofs.Norm.{Norm, norm_squares}
use Rattle.complete.proofs.Syllable.{norm_of_guided, S_guided, H_guided, X_guided, guided_either, Restores, restores_nothing, restores_append, restores_either, S_restores, H_restores, X_restores}

-- an odd number has a square above zero, and an even one no square one
odd_square : (a : ℤ) → odd a ≡ true → square a ≡ 0 → ⊥
odd_square a o e = true≢false (sym o ∙ ap odd (square_zero a (square_size a ∙ ap pos e)))

even_square : (a : ℤ) → odd a ≡ false → square a ≡ 1 → ⊥
even_square a o e =
    false≢true (sym (odd_times a a ∙ ap (λ (b : Bool). b && b) o) ∙ ap odd (square_size a ∙ ap pos e))

zero_of_square : (a : ℤ) → square a ≡ 0 → a ≡ pos 0
zero_of_square a e = square_zero a (square_size a ∙ ap pos e)

-- beside an odd number in a sum that is one, the other is even
even_beside : (a c : ℤ) → odd a ≡ true → square a + square c ≤ 1 → odd c ≡ false
even_beside a c o h = by (odd c) refl
  where
    by : (p : Bool) → odd c ≡ p → p ≡ false
    by false e = refl
    by true e = absurd (both (square a) (square c) (odd_square a o) (odd_square c e) h)
      where
        both : (m n : ℕ) → (m ≡ 0 → ⊥) → (n ≡ 0 → ⊥) → m + n ≤ 1 → ⊥
        both zero n f g k = f refl
        both (suc m) zero f g k = g refl
        both (suc m) (suc n) f g k = omega arith

one_of_square : (a : ℤ) → square a ≡ 1 → lt_z a (pos 0) ≡ false → a ≡ pos 1
one_of_square (negsuc n) e up = absurd (true≢false up)
one_of_square (pos zero) e up = absurd (omega arith)
one_of_square (pos (suc zero)) e up = refl
one_of_square (pos (suc (suc n))) e up = absurd (omega (arith, mul-suc (suc (suc n)) (suc n)))

-- a vector of length one whose x and y are even and whose z is not below zero is +z
up_vector : {v : Vector} → Norm v 0 → odd v.x.whole ≡ false → odd v.y.whole ≡ false → lt_z v.z.whole (pos 0) ≡ false →
    v.z ≡ number (pos 1) (pos 0)
up_vector {v} l x y up =
    let total = norm_squares l in
    let no_x = even_square v.x.whole x in
    let no_y = even_square v.y.whole y in
    ap₂ number (one_of_square v.z.whole (omega arith) up) (zero_of_square v.z.root2 (omega arith))

-- ---- from an axis to +z
pub off_y_guided : {r : Rest} {n : ℕ} → Guided r n → Guided (off_y r) n
unfolding off_y
off_y_guided {r} g = guided_either (odd_y r) (S_guided g) g

pub off_x_guided : {r : Rest} {n : ℕ} → Guided r n → Guided (off_x r) n
unfolding off_x
off_x_guided {r} g = guided_either (odd_x r) (H_guided g) g

turned_up_guided : {r : Rest} {n : ℕ} → Guided r n → Guided (turned_up r) n
unfolding turned_up
turned_up_guided {r} g = guided_either (downward r) (X_guided g) g

pub upright_guided : {r : Rest} {n : ℕ} → Guided r n → Guided (upright r) n
unfolding upright
upright_guided g = turned_up_guided (off_x_guided (off_y_guided g))

-- S off the left: y is even
off_y_parity : {r : Rest} → Guided r 0 → odd_y (off_y r) ≡ false
unfolding off_y vector_without_S negated
off_y_parity {r} g = by (odd_y r) refl
  where
    by : (t : Bool) → odd_y r ≡ t → odd_y (cond t (without_S r) r) ≡ false
    by true e =
        let total = norm_squares (norm_of_guided g) in
        odd_negate r.vector.x.whole ∙ even_beside r.vector.y.whole r.vector.x.whole e (omega arith)
    by false e = e

-- H off the left: x is even, and y stays so
off_x_parity : {r : Rest} → Guided r 0 → odd_y r ≡ false → (odd_x (off_x r) ≡ false) × (odd_y (off_x r) ≡ false)
unfolding off_x vector_without_H negated
off_x_parity {r} g y = by (odd_x r) refl
  where
    by : (t : Bool) → odd_x r ≡ t → (odd_x (cond t (without_H r) r) ≡ false) × (odd_y (cond t (without_H r) r) ≡ false)
    by true e =
        let total = norm_squares (norm_of_guided g) in
        (even_beside r.vector.x.whole r.vector.z.whole e (omega arith), odd_negate r.vector.y.whole ∙ y)
    by false e = (e, y)

-- X off the left: z is not below zero, and x and y stay even
turned_up_parity : (r : Rest) → (odd_x r ≡ false) × (odd_y r ≡ false) →
    (odd_x (turned_up r) ≡ false) × (odd_y (turned_up r) ≡ false) × (downward (turned_up r) ≡ false)
unfolding turned_up vector_without_X negated
turned_up_parity r even = by (downward r) refl
  where
    opposite : (z : ℤ) → lt_z z (pos 0) ≡ true → lt_z (neg_ℤ z) (pos 0) ≡ false
    opposite (pos zero) e = refl
    opposite (pos (suc n)) e = absurd (false≢true (sym (leb-suc-zero (suc n)) ∙ e))
    opposite (negsuc n) e = leb-suc-zero (suc n)

    by : (t : Bool) → downward r ≡ t →
        (odd_x (cond t (without_X r) r) ≡ false) × (odd_y (cond t (without_X r) r) ≡ false) × (downward (cond t (without_X r) r) ≡ false)
    by true e = (even.0, odd_negate r.vector.y.whole ∙ even.1, opposite r.vector.z.whole e)
    by false e = (even.0, even.1, e)

pub upright_up : {r : Rest} → Guided r 0 → (upright r).vector.z ≡ number (pos 1) (pos 0)
unfolding upright
upright_up {r} g =
    let after_y = off_y_guided g in
    let after_x = off_x_guided after_y in
    let even = turned_up_parity (off_x (off_y r)) (off_x_parity after_y (off_y_parity g)) in
    up_vector (norm_of_guided (turned_up_guided after_x)) even.0 even.1 even.2

pub axis_restores : (r : Rest) → Restores (axis_taken r) (upright r).matrix r.matrix
unfolding axis_taken upright off_y off_x turned_up
axis_restores r =
    let s = off_y r in
    let h = off_x s in
    restores_append (restores_either (odd_y r) S (without_S r) r (S_restores r) (restores_nothing r.matrix))
    (restores_append (restores_either (odd_x s) H (without_H s) s (H_restores s) (restores_nothing s.matrix))
    (restores_either (downward h) X (without_X h) h (X_restores h) (restores_nothing h.matrix)))
