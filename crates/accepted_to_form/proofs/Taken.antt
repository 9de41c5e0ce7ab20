-- A letter that is taken, or nothing: once or not at all. Assumes nothing.
use mathlib.Core.Bool.{Bool, true, false, ◌&&◌}
use mathlib.Core.List.{◌++◌}
use Prim.Native.Nat.{ℕ, ◌≤◌}
use native.Mathlib.Omega.{arith}
use lib.ListN.{length, length-append}
use Rattle.matrix.specs.Letter.{H, S, T, X}
use Rattle.complete.specs.declared.Rest.{Rest}
use Rattle.complete.specs.Descent.{if_taken, odd_x, odd_y, odd_z, past_S, past_H, syllable_taken, off_y, off_x, downward, axis_taken}

-- a letter, or nothing, is at most one letter
pub length_taken : (t : Bool) (b : ℕ) → length (if_taken t b) ≤ 1
unfolding if_taken
length_taken true b = omega arith
length_taken false b = omega arith

-- three letters, each taken or not
length_three : (s t u : Bool) (a b c : ℕ) → length (if_taken s a ++ (if_taken t b ++ if_taken u c)) ≤ 3
length_three s t u a b c =
    omega (
      arith,
      length-append (if_taken s a) (if_taken t b ++ if_taken u c),
      length-append (if_taken t b) (if_taken u c),
      length_taken s a,
      length_taken t b,
      length_taken u c,
    )

-- "HT or SHT", and an axis, take at most three letters
pub length_syllable : (r : Rest) → length (syllable_taken r) ≤ 3
unfolding syllable_taken
length_syllable r =
    let s = past_S r in
    let h = past_H s in
    length_three (odd_x r && odd_z r) (odd_y s && odd_z s) (odd_x h && odd_y h) S H T

pub length_axis : (r : Rest) → length (axis_taken r) ≤ 3
unfolding axis_taken
length_axis r =
    let s = off_y r in
    length_three (odd_y r) (odd_x s) (downward (off_x s)) S H X
