-- The exponent takes at most 23 bytes with the word before it, and each coefficient at most 22.
use Rattle.std.proofs.Common.{◌+◌, ◌≤◌, ◌*◌}
use Rattle.arrayvec.specs.ArrayVec.{array_vec_len}
use Rattle.call_tests.proofs.answer_matrix.Given as goal

abbrev pub invariant-loop-z : goal.invariant-loop-z
invariant-loop-z l = array_vec_len l.answer ≤ 23 + 22 * l.z-index
