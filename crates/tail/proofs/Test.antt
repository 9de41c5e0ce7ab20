-- Equality in meaning of two texts as a quick test, with no product of elements, and that the test is sound.
-- Assumes nothing.
use mathlib.Core.Path.{subst₂}
use mathlib.Core.Bool.{Bool}
use mathlib.Core.List.{List}
use Prim.Native.Nat.{ℕ}
use lib.Dec.{T as Holds}
use Rattle.matrix.specs.Matrix.{Same}
use Rattle.matrix.specs.Letter.{matrix_of}
use Rattle.matrix.proofs.Test.{whole_test, element_test, raised, over_test, same_test, same_by_test}
use Rattle.tail.proofs.Action.{quick_matrix, quick_matrix_is_matrix}

-- two texts have the same matrix, phase included
unfoldable pub texts_test : List ℕ → List ℕ → Bool
unfolding same_test over_test raised element_test whole_test quick_matrix
texts_test s t = same_test (quick_matrix s) (quick_matrix t)

pub texts_same : (s t : List ℕ) → Holds (texts_test s t) → Same (matrix_of s) (matrix_of t)
unfolding texts_test
texts_same s t h =
    subst₂ Same (quick_matrix_is_matrix s) (quick_matrix_is_matrix t) (same_by_test (quick_matrix s) (quick_matrix t) h)
