-- What the frame reader says of a frame decides what frame to form says: its refusal is refused, and the form of its
-- record is the frame's. Assumes nothing.
use Prim.Native.Nat.{ℕ}
use mathlib.Core.List.{List}
use mathlib.Core.Path.{◌≡◌, refl, subst}
use Rattle.matrix.specs.declared.Matrix.{Matrix}
use Rattle.answer.specs.declared.Figures.{Figures}
use Rattle.answer.specs.declared.Refusal.{Refusal}
use Rattle.answer.specs.Refusal.{Said, accepted, refusal}
use Rattle.answer.proofs.Told.{refusal_told, accepted_is_not_refused}
use Rattle.accept_record.specs.Accept.{AcceptedRecord}
use Rattle.frame.specs.Calls.{AcceptedFrame, FrameToMatrix, refused_frame, accepted_frame}
use Rattle.accepted_to_form.specs.Promise.{AcceptedToForm}
use Rattle.frame_to_form.specs.Promise.{FrameToForm, with_form}

-- a frame that the reader refuses is refused
refused_as : {text before : List ℕ} {said : Said Matrix} (r : Refusal) → said ≡ refusal r → FrameToMatrix text said → FrameToForm text before (refusal r) before
refused_as {text} {before} r e (refused_frame {r = s} f) =
    subst (λ (q : Refusal). FrameToForm text before (refusal q) before) (refusal_told s r e) (FrameToForm.refused_frame f)
refused_as r e (accepted_frame a) = absurd (accepted_is_not_refused e)

pub refused_too : {text before : List ℕ} (r : Refusal) → FrameToMatrix text (refusal r) → FrameToForm text before (refusal r) before
refused_too r f = refused_as r refl f

-- a frame that the reader accepts is that of the record that it read
pub accepted_record : {text : List ℕ} {m : Matrix} → FrameToMatrix text (accepted m) → AcceptedFrame text m
accepted_record (accepted_frame a) = a

pub record_judged : (text : List ℕ) (m : Matrix) → FrameToMatrix text (accepted m) → AcceptedRecord m
record_judged text m f = let read = accepted_record f in read.record_accepted

-- and its form is the frame's
pub form_too : {text before after : List ℕ} {m : Matrix} {answer : Said Figures} →
    FrameToMatrix text (accepted m) → AcceptedToForm m before answer after → FrameToForm text before answer after
form_too f w = with_form (accepted_record f) w.form w.same w.written
