-- Where a frame or a buffer is too short or too long, the answer is the refusal of that. Assumes nothing.
use Rattle.std.proofs.Common.{◌≡◌, ℕ, ◌<◌, ◌≤◌, List, length, sym, subst}
use Rattle.matrix.specs.declared.Matrix.{Matrix}
use Rattle.answer.specs.declared.Refusal.TheVariants.{BadFrame, NoRoom}
use Rattle.answer.specs.Limits.{frame_length}
use Rattle.answer.specs.Refusal.{accepted, refusal}
use Rattle.answer.specs.Written.{put}
use Rattle.accept_record.specs.Accept.{AcceptedRecord}
use Rattle.frame.specs.Digit.{FirstBadDigit}
use Rattle.frame.specs.Frame.{check_word, frame_text}
use Rattle.frame.specs.Calls.{short, long, bad_digit, bad_frame, FrameToMatrix, refused_frame, MatrixToFrame, no_room, framed}

-- ---- frame to matrix
pub short_frame : (text : List ℕ) → length text < frame_length → FrameToMatrix text (refusal (BadFrame (length text)))
short_frame text h = refused_frame (bad_frame (short h))

pub long_frame : (text : List ℕ) → frame_length < length text → FrameToMatrix text (refusal (BadFrame frame_length))
long_frame text h = refused_frame (bad_frame (long h))

pub wrong_digit : {text : List ℕ} {p : ℕ} → length text ≡ frame_length → FirstBadDigit text p → FrameToMatrix text (refusal (BadFrame p))
wrong_digit h b = refused_frame (bad_frame (bad_digit h b))

-- ---- matrix to frame
pub short_buffer :
    (m : Matrix) (before : List ℕ) → AcceptedRecord m → length before < frame_length →
    MatrixToFrame m before (refusal (NoRoom frame_length)) before
short_buffer m before a h = no_room a h

pub long_buffer :
    (m : Matrix) (before after : List ℕ) → AcceptedRecord m → frame_length ≤ length before →
    after ≡ put (frame_text m (check_word m)) before → MatrixToFrame m before (accepted tt) after
long_buffer m before after a h e = subst (MatrixToFrame m before (accepted tt)) (sym e) (framed a h)
