-- Document 01, "The form", its last sentence: what taking the right syllable off the left does to the rotation matrix.
use Rattle.std.specs.Prelude.{ℕ, suc, List, [], ◌∷◌}
use Rattle.matrix.specs.declared.Matrix.{Matrix}
use Rattle.matrix.specs.Matrix.{times, Same, Unitary}
use Rattle.matrix.specs.Letter.{H, S, T, matrix_of}
use Rattle.rotation.specs.Rotation.{Axis, axis_X, axis_Y, axis_Z, LeastExponent, RowZero}

-- "the right one of T, HT, SHT": the one that the zero row tells
pub data RightOne : Axis → List ℕ → Type 0 where
  T_by_third : RightOne axis_Z (T ∷ [])
  HT_by_first : RightOne axis_X (H ∷ T ∷ [])
  SHT_by_second : RightOne axis_Y (S ∷ H ∷ T ∷ [])

-- "every such matrix with exponent above 0 loses exactly one when the right one of T, HT, SHT is taken off the left"
pub record LosesOne {u : Matrix} {m : ℕ} (least : LeastExponent u (suc m)) : Type 0 where
  pub row : Axis
  pub zero : RowZero least row
  pub syllable : List ℕ
  pub right : RightOne row syllable
  pub rest : Matrix
  pub unitary : Unitary rest
  pub taken_off : Same u (times (matrix_of syllable) rest)
  pub lower : LeastExponent rest m
