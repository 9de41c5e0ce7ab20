-- Texts of equal meaning stay so when the same text is put before or after both. Assumes nothing.
use mathlib.Core.Path.{subst₂, sym}
use mathlib.Core.List.{List, ◌++◌}
use Prim.Native.Nat.{ℕ}
use Rattle.matrix.specs.Matrix.{Same}
use Rattle.matrix.specs.Letter.{matrix_of}
use Rattle.matrix.proofs.Times.{matrix_of_append}
use Rattle.matrix.proofs.Same.{same_times_left, same_times_right}

pub same_after : (p s t : List ℕ) → Same (matrix_of s) (matrix_of t) → Same (matrix_of (p ++ s)) (matrix_of (p ++ t))
same_after p s t h =
    subst₂ Same (sym (matrix_of_append p s)) (sym (matrix_of_append p t)) (same_times_left (matrix_of p) h)

pub same_before : (s t p : List ℕ) → Same (matrix_of s) (matrix_of t) → Same (matrix_of (s ++ p)) (matrix_of (t ++ p))
same_before s t p h =
    subst₂ Same (sym (matrix_of_append s p)) (sym (matrix_of_append t p)) (same_times_right (matrix_of p) h)
