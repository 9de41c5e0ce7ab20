-- Document 01, "Refusals": matrix to form, in the order 4, 5, 6, 3.
use Rattle.std.specs.Prelude.{ℕ, List}
use Rattle.matrix.specs.declared.Matrix.{Matrix}
use Rattle.matrix.specs.Matrix.{Same}
use Rattle.matrix.specs.Letter.{matrix_of}
use Rattle.form.specs.Form.{Form}
use Rattle.answer.specs.declared.Refusal.{Refusal}
use Rattle.answer.specs.declared.Figures.{Figures}
use Rattle.answer.specs.Refusal.{Said, refusal}
use Rattle.answer.specs.Written.{PutForm}
use Rattle.accept_record.specs.Accept.{AcceptedRecord, RefusedRecord}

-- What matrix to form may say of a record and a lent buffer, and the buffer that it leaves: a refusal of the record;
-- else a form of the record's matrix, phase included, written or refused for want of room.
pub data MatrixToForm (m : Matrix) (before : List ℕ) : Said Figures → List ℕ → Type 0 where
  refused_record : {r : Refusal} → RefusedRecord m r → MatrixToForm m before (refusal r) before
  with_form :
      {f : List ℕ} {answer : Said Figures} {after : List ℕ} →
      AcceptedRecord m → Form f → Same (matrix_of f) m → PutForm f before answer after → MatrixToForm m before answer after
