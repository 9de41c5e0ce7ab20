-- `string_to_matrix::product_of` meets its contract. The loop's invariant: the record is the matrix of the last letters, those that are
-- done. Assumes nothing.
use mathlib.Core.Path.{◌≡◌}
use Rattle.matrix.specs.Letter.{matrix_of}
use Rattle.string_to_matrix.proofs.Ending.{ending}
use Rattle.string_to_matrix.proofs.product_of.Given as goal

abbrev pub invariant-loop-done : goal.invariant-loop-done
invariant-loop-done l = l.product ≡ matrix_of (ending l.done l.form)
