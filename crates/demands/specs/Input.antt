-- The inputs that a form can be asked of, "strings or matrices", matrices as records or as frames: what each call that
-- writes a form promises, which inputs are accepted, and the matrix of an input.
use Rattle.std.specs.Prelude.{ℕ, List}
use Rattle.matrix.specs.declared.Matrix.{Matrix}
use Rattle.matrix.specs.Letter.{matrix_of}
use Rattle.answer.specs.declared.Figures.{Figures}
use Rattle.answer.specs.declared.Refusal.{Refusal}
use Rattle.answer.specs.Refusal.{Said}
use Rattle.alphabet.specs.String.{AcceptedString, RefusedString}
use Rattle.accept_record.specs.Accept.{AcceptedRecord, RefusedRecord}
use Rattle.frame.specs.Calls.{AcceptedFrame, RefusedFrame}
use Rattle.string_to_form.specs.Promise.{StringToForm}
use Rattle.matrix_to_form.specs.Promise.{MatrixToForm}
use Rattle.frame_to_form.specs.Promise.{FrameToForm}

pub data Input : Type 0 where
  a_string : List ℕ → Input
  a_record : Matrix → Input
  a_frame : List ℕ → Input

-- what is promised of an input and a lent buffer: the answer, and the buffer at exit
pub data Promised : Input → List ℕ → Said Figures → List ℕ → Type 0 where
  of_string :
      {text before after : List ℕ} {answer : Said Figures} →
      StringToForm text before answer after → Promised (a_string text) before answer after
  of_record :
      {m : Matrix} {before after : List ℕ} {answer : Said Figures} →
      MatrixToForm m before answer after → Promised (a_record m) before answer after
  of_frame :
      {text before after : List ℕ} {answer : Said Figures} →
      FrameToForm text before answer after → Promised (a_frame text) before answer after

-- the input is refused, by the table
pub data Refused : Input → Refusal → Type 0 where
  string_refused : {text : List ℕ} {r : Refusal} → RefusedString text r → Refused (a_string text) r
  record_refused : {m : Matrix} {r : Refusal} → RefusedRecord m r → Refused (a_record m) r
  frame_refused : {text : List ℕ} {r : Refusal} → RefusedFrame text r → Refused (a_frame text) r

-- the input is accepted, and its matrix is m
pub data Accepted : Input → Matrix → Type 0 where
  string : {text : List ℕ} → AcceptedString text → Accepted (a_string text) (matrix_of text)
  matrix : {m : Matrix} → AcceptedRecord m → Accepted (a_record m) m
  frame : {text : List ℕ} {m : Matrix} → AcceptedFrame text m → Accepted (a_frame text) m
