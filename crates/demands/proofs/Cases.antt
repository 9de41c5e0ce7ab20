-- What a call promised of an input comes to, whichever the input is: a refusal of the input, or a form of its matrix that
-- is written or refused for want of room. Assumes nothing.
use mathlib.Core.Path.{◌≡◌, refl}
use mathlib.Core.List.{List}
use Prim.Native.Nat.{ℕ}
use Rattle.matrix.specs.declared.Matrix.{Matrix}
use Rattle.matrix.specs.Matrix.{Same}
use Rattle.matrix.specs.Letter.{matrix_of}
use Rattle.form.specs.Form.{Form}
use Rattle.answer.specs.declared.Figures.{Figures}
use Rattle.answer.specs.declared.Refusal.{Refusal}
use Rattle.answer.specs.Refusal.{Said, refusal}
use Rattle.answer.specs.Written.{PutForm}
use Rattle.answer.proofs.Told.{refusal_told, accepted_is_not_refused}
use Rattle.alphabet.proofs.String.{string_refused_once, string_refused_or_accepted}
use Rattle.accept_record.proofs.Judged as Judged
use Rattle.frame.specs.Calls.{AcceptedFrame, RefusedFrame, refused_frame, accepted_frame}
use Rattle.frame.proofs.Once.{frame_to_matrix_said_once}
use Rattle.string_to_form.specs.Promise as StringToFormRules
use Rattle.matrix_to_form.specs.Promise as MatrixToFormRules
use Rattle.frame_to_form.specs.Promise as FrameToFormRules
use Rattle.demands.specs.Input.{Input, Promised, of_string, of_record, of_frame, Refused, string_refused, record_refused, frame_refused, Accepted, string, matrix, frame}

-- a promise, taken apart
pub data Case (i : Input) (before : List ℕ) : Said Figures → List ℕ → Type 0 where
  of_input : {r : Refusal} → Refused i r → Case i before (refusal r) before
  of_form :
      {m : Matrix} {f : List ℕ} {answer : Said Figures} {after : List ℕ} →
      Accepted i m → Form f → Same (matrix_of f) m → PutForm f before answer after → Case i before answer after

pub promised_case : {i : Input} {before after : List ℕ} {answer : Said Figures} → Promised i before answer after → Case i before answer after
promised_case (of_string (StringToFormRules.refused_string r)) = of_input (string_refused r)
promised_case (of_string (StringToFormRules.with_form a f p)) = of_form (string a) f.form f.same p
promised_case (of_record (MatrixToFormRules.refused_record r)) = of_input (record_refused r)
promised_case (of_record (MatrixToFormRules.with_form a f s p)) = of_form (matrix a) f s p
promised_case (of_frame (FrameToFormRules.refused_frame r)) = of_input (frame_refused r)
promised_case (of_frame (FrameToFormRules.with_form a f s p)) = of_form (frame a) f s p

-- a frame is refused in one way only, or accepted, with one record
frame_refused_once : {text : List ℕ} {r s : Refusal} → RefusedFrame text r → RefusedFrame text s → r ≡ s
frame_refused_once {r = r} {s = s} a b = refusal_told r s (frame_to_matrix_said_once (refused_frame a) (refused_frame b))

frame_refused_or_accepted : {text : List ℕ} {m : Matrix} {r : Refusal} → RefusedFrame text r → AcceptedFrame text m → ⊥
frame_refused_or_accepted a b = accepted_is_not_refused (frame_to_matrix_said_once (accepted_frame b) (refused_frame a))

frame_accepted_once : {text : List ℕ} {m n : Matrix} → AcceptedFrame text m → AcceptedFrame text n → m ≡ n
frame_accepted_once a b = let read = frame_to_matrix_said_once (accepted_frame a) (accepted_frame b) in cc

pub refused_once : {i : Input} {r s : Refusal} → Refused i r → Refused i s → r ≡ s
refused_once (string_refused a) (string_refused b) = string_refused_once a b
refused_once (record_refused a) (record_refused b) = Judged.refused_once a b
refused_once (frame_refused a) (frame_refused b) = frame_refused_once a b

pub refused_or_accepted : {i : Input} {r : Refusal} {m : Matrix} → Refused i r → Accepted i m → ⊥
refused_or_accepted (string_refused r) (string a) = string_refused_or_accepted r a
refused_or_accepted (record_refused r) (matrix a) = Judged.accepted_not_refused a r
refused_or_accepted (frame_refused r) (frame a) = frame_refused_or_accepted r a

-- an accepted input has one matrix
pub accepted_once : {i : Input} {m n : Matrix} → Accepted i m → Accepted i n → m ≡ n
accepted_once (string a) (string b) = refl
accepted_once (matrix a) (matrix b) = refl
accepted_once (frame a) (frame b) = frame_accepted_once a b
