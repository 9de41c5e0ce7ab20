-- The form of an accepted record, as it is answered.
use Rattle.std.specs.Prelude.{ℕ, List}
use Rattle.matrix.specs.declared.Matrix.{Matrix}
use Rattle.matrix.specs.Matrix.{Same}
use Rattle.matrix.specs.Letter.{matrix_of}
use Rattle.form.specs.Form.{Form}
use Rattle.answer.specs.declared.Figures.{Figures}
use Rattle.answer.specs.Refusal.{Said}
use Rattle.answer.specs.Written.{PutForm}

-- a form of the record's matrix, phase included, is written or refused for want of room
pub record AcceptedToForm (m : Matrix) (before : List ℕ) (answer : Said Figures) (after : List ℕ) : Type 0 where
  pub text : List ℕ
  pub form : Form text
  pub same : Same (matrix_of text) m
  pub written : PutForm text before answer after
