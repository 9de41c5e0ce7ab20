-- `frame::number` meets its contract. The loop's invariant: `n` is the number of the digits before the loop's place. Assumes
-- nothing.
use Rattle.std.proofs.Common.{ℕ, ◌^◌, ◌<◌, ◌≤◌, arith, lit<}
use native.Mathlib.Nat.{pow-le-pow_right}
use Rattle.frame.proofs.number.Goals as goal

-- with at most seven digits read there is room for one more
room : (i : ℕ) → i < 8 → 16 ^ i ≤ 16 ^ 7
room i h = let l : i ≤ 7 = omega arith in pow-le-pow_right (lit< tt) l

pub overflow_mul-n : goal.overflow_mul-n
overflow_mul-n c = omega (arith, room c.loop-b.b-index (omega arith))

pub overflow_add-n : goal.overflow_add-n
overflow_add-n c = omega (arith, room c.loop-b.b-index (omega arith))
