-- `string_to_matrix::least` meets its contract. The loop's invariant: the record means the same. The measure is
-- the exponent. Assumes nothing.
use Rattle.matrix.specs.Matrix.{Same}
use Rattle.string_to_matrix.proofs.least.Given as goal

abbrev pub invariant-loop-r : goal.invariant-loop-r
invariant-loop-r l = Same l.initial.r.matrix l.r.matrix

abbrev pub decreases-loop-r : goal.decreases-loop-r
decreases-loop-r l = l.r.matrix.exponent
