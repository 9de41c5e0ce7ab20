-- "An accepted frame read and written again is the same 138 bytes, and an accepted record written and read again is the same
-- record." Assumes nothing.
use Rattle.std.proofs.Common.{◌≡◌, ℕ, ◌≤◌, List, ◌++◌, length, take, drop, sym, refl, ap, ◌∙◌, subst, mod-lt, arith, lit<}
use lib.Seq.{take-append_seam}
use Rattle.matrix.specs.declared.Matrix.{Matrix}
use Rattle.answer.specs.Limits.{frame_length}
use Rattle.answer.specs.Refusal.{Said, accepted}
use Rattle.answer.specs.Written.{put}
use Rattle.accept_record.specs.Accept.{AcceptedRecord}
use Rattle.frame.specs.Frame.{check_word, frame_text, Spells}
use Rattle.frame.specs.Calls.{FrameToMatrix, accepted_frame, MatrixToFrame, framed}
use Rattle.frame.proofs.Words.{in_words}
use Rattle.frame.proofs.Spelled.{frame_text_length}
use Rattle.frame.proofs.Once.{frame_to_matrix_said_once, matrix_to_frame_said_once}

-- what stands at the start of a buffer that a frame was put into
front : (m : Matrix) (before : List ℕ) → take frame_length (put (frame_text m (check_word m)) before) ≡ frame_text m (check_word m)
unfolding put
front m before =
    let f = frame_text m (check_word m) in
    ap (λ (n : ℕ). take n (f ++ drop (length f) before)) (sym (frame_text_length m (check_word m)))
    ∙ take-append_seam f (drop (length f) before)

-- an accepted frame, read and written again into a buffer with room: the same 138 bytes, and the bytes after them stay
pub frame_round_trip :
    {text before after : List ℕ} {m : Matrix} {said : Said (Unit {0})} → FrameToMatrix text (accepted m) →
    frame_length ≤ length before → MatrixToFrame m before said after → (said ≡ accepted tt) × (after ≡ put text before)
frame_round_trip {before = before} {m = m} (accepted_frame a) room w =
    let e = matrix_to_frame_said_once w (framed a.record_accepted room) in
    (e.0, e.1 ∙ ap (λ (s : List ℕ). put s before) (sym a.spells.digits))

-- the text that is written for an accepted record spells it
written_spells : (m : Matrix) → AcceptedRecord m → Spells (frame_text m (check_word m)) m (check_word m)
unfolding check_word
written_spells m a = record {
  exponent = omega (arith, a.inside.exponent);
  coefficients = in_words a.inside.coefficients;
  check_word = mod-lt _ (lit< tt);
  digits = refl;
}

read_again :
    {m : Matrix} {before after : List ℕ} {said : Said Matrix} → MatrixToFrame m before (accepted tt) after →
    FrameToMatrix (take frame_length after) said → said ≡ accepted m
read_again {m = m} {before = before} (framed a room) r =
    frame_to_matrix_said_once r
    (accepted_frame (record {
      spells = subst (λ (s : List ℕ). Spells s m (check_word m)) (sym (front m before)) (written_spells m a);
      record_accepted = a;
    }))

-- an accepted record, written and read again: the same record
pub record_round_trip :
    {before after : List ℕ} {m : Matrix} {said : Said Matrix} → MatrixToFrame m before (accepted tt) after →
    FrameToMatrix (take frame_length after) said → said ≡ accepted m
record_round_trip w r = read_again w r
