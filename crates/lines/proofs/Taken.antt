-- What is taken of a part is of the part. Assumes nothing.
use Prim.Native.Nat.{ℕ, ◌≤◌}
use native.Mathlib.Omega.{arith}
use mathlib.Core.List.{List}
use mathlib.Core.Path.{ap}
use lib.ListN.{length, length-append}
use Rattle.std.specs.Prelude.{Some}
use Rattle.lines.specs.Line.{Takes}

-- the bytes taken up to a line's end
pub used_within :
    {part so_far line : List ℕ} {room used : ℕ} → Takes part so_far room (Some used) line → used ≤ length part
used_within (Takes.ends {piece} unbroken rest split held) = omega (arith, simp length-append at (ap length split))
