-- The coefficients of a unitary record are small: the squares of a column's coefficients add up to 2^k, so none is larger
-- than (√2)^k. Assumes nothing.
use Prim.Native.Nat.{ℕ, ◌+◌, ◌*◌, ◌^◌, ◌≤◌, ◌<◌}
use native.Mathlib.Nat.{mul-le-mul_left, mul-lt-mul_of_pos_right}
use native.Mathlib.Decide.{dec_le}
use native.Mathlib.Omega.{arith}
use mathlib.Core.Path.{◌≡◌, sym, ap, ap₂, ◌∙◌}
use lib.Pow.{pow_mono, pow-add}
use lib.IntN.{ℤ, pos, ◌+ℤ◌, nat_abs}
use Rattle.algebra.proofs.Cancellation.{square_size}
use Rattle.ring.specs.declared.Element.{Element}
use Rattle.ring.specs.Element.{size_whole}
use Rattle.ring.specs.Bounds.{Small}
use Rattle.matrix.specs.declared.Matrix.{Matrix}
use Rattle.matrix.specs.Matrix.{Unitary}

-- a number is at most another where its square is
pub root_at_most : (n b : ℕ) → n * n ≤ b * b → n ≤ b
root_at_most n b h = by (dec_le n b)
  where
    by : Dec (n ≤ b) → n ≤ b
    by (yes l) = l
    by (no g) =
        let above : b < n = omega arith in
        absurd (omega (arith, mul-le-mul_left {m = b} {n = n} b (omega arith), mul-lt-mul_of_pos_right {m = b} {n = n} {k = n} above (omega arith)))

-- the square of a coefficient's size, and of four of them
abbrev pub square : ℤ → ℕ
square z = nat_abs z * nat_abs z

abbrev pub squares : Element → ℕ
squares x = square x.a0 + square x.a1 + square x.a2 + square x.a3

pub size_is_squares : (x : Element) → size_whole x ≡ pos (squares x)
unfolding size_whole
size_is_squares x = ap₂ ◌+ℤ◌ (ap₂ ◌+ℤ◌ (ap₂ ◌+ℤ◌ (square_size x.a0) (square_size x.a1)) (square_size x.a2)) (square_size x.a3)

-- a sum of squares within 2^(b + b) is of numbers within 2^b
small_of_squares : (b : ℕ) (x : Element) → squares x ≤ 2 ^ (b + b) → Small (2 ^ b) x
small_of_squares b x h =
    let within : (z : ℤ) → nat_abs z * nat_abs z ≤ squares x → nat_abs z ≤ 2 ^ b =
    λ z l. root_at_most (nat_abs z) (2 ^ b) (omega (arith, pow-add 2 b b)) in
    record {
      a0 = record { size = within x.a0 (omega arith) };
      a1 = record { size = within x.a1 (omega arith) };
      a2 = record { size = within x.a2 (omega arith) };
      a3 = record { size = within x.a3 (omega arith) };
    }

-- a column whose squared sizes sum to 2^k
module _ (b k : ℕ) (low : k ≤ b + b) (x y : Element) (column : size_whole x +ℤ size_whole y ≡ pos (2 ^ k)) where
  total : squares x + squares y ≡ 2 ^ k
  total = ap nat_abs (sym (ap₂ ◌+ℤ◌ (size_is_squares x) (size_is_squares y)) ∙ column)

  small_top : Small (2 ^ b) x
  small_top = small_of_squares b x (omega (arith, total, pow_mono low))

  small_bottom : Small (2 ^ b) y
  small_bottom = small_of_squares b y (omega (arith, total, pow_mono low))

-- the four elements of a record are small
pub record SmallElements (bound : ℕ) (m : Matrix) : Type 0 where
  pub top_left : Small bound m.top.left
  pub top_right : Small bound m.top.right
  pub bottom_left : Small bound m.bottom.left
  pub bottom_right : Small bound m.bottom.right

-- "No unitary matrix in the exponent limit breaks the coefficient limit", for every limit
pub unitary_is_small : (b : ℕ) {m : Matrix} → Unitary m → m.exponent ≤ b + b → SmallElements (2 ^ b) m
unitary_is_small b {m} u low = record {
  top_left = small_top b m.exponent low m.top.left m.bottom.left u.left_whole;
  top_right = small_top b m.exponent low m.top.right m.bottom.right u.right_whole;
  bottom_left = small_bottom b m.exponent low m.top.left m.bottom.left u.left_whole;
  bottom_right = small_bottom b m.exponent low m.top.right m.bottom.right u.right_whole;
}
