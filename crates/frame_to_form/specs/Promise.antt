-- Document 01, "Refusals": frame to form, in the order 9, 10, 4, 5, 6, 3.
use Rattle.std.specs.Prelude.{ℕ, List}
use Rattle.matrix.specs.declared.Matrix.{Matrix}
use Rattle.matrix.specs.Matrix.{Same}
use Rattle.matrix.specs.Letter.{matrix_of}
use Rattle.form.specs.Form.{Form}
use Rattle.answer.specs.declared.Refusal.{Refusal}
use Rattle.answer.specs.declared.Figures.{Figures}
use Rattle.answer.specs.Refusal.{Said, refusal}
use Rattle.answer.specs.Written.{PutForm}
use Rattle.frame.specs.Calls.{AcceptedFrame, RefusedFrame}

-- What frame to form may say of a frame and a lent buffer, and the buffer that it leaves: a refusal of the frame; else
-- a form of the matrix of its record, phase included, written or refused for want of room.
pub data FrameToForm (text before : List ℕ) : Said Figures → List ℕ → Type 0 where
  refused_frame : {r : Refusal} → RefusedFrame text r → FrameToForm text before (refusal r) before
  with_form :
      {m : Matrix} {f : List ℕ} {answer : Said Figures} {after : List ℕ} →
      AcceptedFrame text m → Form f → Same (matrix_of f) m → PutForm f before answer after → FrameToForm text before answer after
