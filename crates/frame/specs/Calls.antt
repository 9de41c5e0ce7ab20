-- Document 01, "Refusals": frame to matrix (9, 10, 4, 5, 6) and matrix to frame (4, 5, 6, 3).
use Rattle.std.specs.Prelude.{◌≡◌, ℕ, ◌<◌, ◌≤◌, List, length, ◌≢◌}
use Rattle.matrix.specs.declared.Matrix.{Matrix}
use Rattle.answer.specs.declared.Refusal.{Refusal}
use Rattle.answer.specs.declared.Refusal.TheVariants.{BadFrame, BadCheckWord, NoRoom}
use Rattle.answer.specs.Limits.{frame_length}
use Rattle.answer.specs.Refusal.{Said, accepted, refusal}
use Rattle.answer.specs.Written.{put}
use Rattle.accept_record.specs.Accept.{AcceptedRecord, RefusedRecord}
use Rattle.frame.specs.Digit.{FirstBadDigit}
use Rattle.frame.specs.Frame.{Spells, check_word, frame_text}

-- refusal 9: "length if short, 138 if long, else first bad digit"
pub data IsBadFrame (text : List ℕ) : ℕ → Type 0 where
  short : length text < frame_length → IsBadFrame text (length text)
  long : frame_length < length text → IsBadFrame text frame_length
  bad_digit : {p : ℕ} → length text ≡ frame_length → FirstBadDigit text p → IsBadFrame text p

-- What the refusals of a frame are, in order, and the record of an accepted one: "The frame reader returns the record as
-- written, not reduced."
pub data RefusedFrame (text : List ℕ) : Refusal → Type 0 where
  bad_frame : {p : ℕ} → IsBadFrame text p → RefusedFrame text (BadFrame p)
  bad_check_word : {m : Matrix} {check : ℕ} → Spells text m check → (check ≢ check_word m) → RefusedFrame text BadCheckWord
  bad_record : {m : Matrix} {r : Refusal} → Spells text m (check_word m) → RefusedRecord m r → RefusedFrame text r

pub record AcceptedFrame (text : List ℕ) (m : Matrix) : Type 0 where
  pub spells : Spells text m (check_word m)
  pub record_accepted : AcceptedRecord m

pub data FrameToMatrix (text : List ℕ) : Said Matrix → Type 0 where
  refused_frame : {r : Refusal} → RefusedFrame text r → FrameToMatrix text (refusal r)
  accepted_frame : {m : Matrix} → AcceptedFrame text m → FrameToMatrix text (accepted m)

-- "The frame writer writes a matrix as given, exponent not reduced."
pub data MatrixToFrame (m : Matrix) (before : List ℕ) : Said (Unit {0}) → List ℕ → Type 0 where
  refused_record : {r : Refusal} → RefusedRecord m r → MatrixToFrame m before (refusal r) before
  no_room : AcceptedRecord m → length before < frame_length → MatrixToFrame m before (refusal (NoRoom frame_length)) before
  framed : AcceptedRecord m → frame_length ≤ length before → MatrixToFrame m before (accepted tt) (put (frame_text m (check_word m)) before)
