-- `compare::same_codes` meets its contract. The loop's invariant: the codes before `i` agree. Assumes nothing.
use lib.ListN.{take}
use mathlib.Core.Path.{◌≡◌}
use Rattle.compare.proofs.same_codes.Given as goal

abbrev pub invariant-loop-i : goal.invariant-loop-i
invariant-loop-i l = take l.i l.first ≡ take l.i l.second
