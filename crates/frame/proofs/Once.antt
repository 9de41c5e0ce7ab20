-- Two answers, and two buffers, that fit one promise are equal: of the frame reader and of the frame writer.
-- Assumes nothing.
use Rattle.std.proofs.Common.{◌≡◌, ℕ, List, Result, sym, refl, ap, ◌∙◌, subst, arith}
use Rattle.lists.proofs.List.{passes_or_fails, fails_once}
use Rattle.matrix.specs.declared.Matrix.{Matrix}
use Rattle.answer.specs.declared.Refusal.{Refusal}
use Rattle.answer.specs.declared.Refusal.TheVariants.{BadFrame}
use Rattle.answer.specs.Refusal.{Said, accepted, refusal, said}
use Rattle.answer.proofs.Told.{said_told}
use Rattle.accept_record.specs.Accept.{RefusedRecord}
use Rattle.accept_record.proofs.Judged.{refused_once, accepted_not_refused}
use Rattle.frame.specs.Frame.{check_word, Spells}
use Rattle.frame.specs.Calls.{IsBadFrame, short, long, bad_digit, RefusedFrame, bad_frame, bad_check_word, bad_record, AcceptedFrame, FrameToMatrix, refused_frame, accepted_frame, MatrixToFrame, refused_record, no_room, framed}
use Rattle.frame.proofs.Spelled.{spells_length, spells_digits, spells_once}

-- ---- refusal 9
bad_frame_once : {text : List ℕ} {p q : ℕ} → IsBadFrame text p → IsBadFrame text q → p ≡ q
bad_frame_once (short h) (short k) = refl
bad_frame_once (short h) (long k) = absurd (omega arith)
bad_frame_once (short h) (bad_digit l b) = absurd (omega arith)
bad_frame_once (long h) (short k) = absurd (omega arith)
bad_frame_once (long h) (long k) = refl
bad_frame_once (long h) (bad_digit l b) = absurd (omega arith)
bad_frame_once (bad_digit l a) (short k) = absurd (omega arith)
bad_frame_once (bad_digit l a) (long k) = absurd (omega arith)
bad_frame_once (bad_digit l a) (bad_digit m b) = fails_once a b

-- a text that spells a record is no bad frame
spelled_not_bad : {text : List ℕ} {m : Matrix} {check p : ℕ} → Spells text m check → IsBadFrame text p → ⊥
spelled_not_bad s (short h) = omega (arith, spells_length s)
spelled_not_bad s (long h) = omega (arith, spells_length s)
spelled_not_bad s (bad_digit l b) = passes_or_fails (spells_digits s) b

-- a text with a wrong check word has the right one for no record
wrong_not_right : {text : List ℕ} {m n : Matrix} {check : ℕ} → Spells text m check → (check ≡ check_word m → ⊥) → Spells text n (check_word n) → ⊥
wrong_not_right s wrong t = let e = spells_once s t in wrong (e.1 ∙ ap check_word (sym e.0))

-- the record of a text with its right check word
refused_as : {text : List ℕ} {m n : Matrix} {r : Refusal} → Spells text m (check_word m) → Spells text n (check_word n) → RefusedRecord m r → RefusedRecord n r
refused_as {r = r} s t h = subst (λ (x : Matrix). RefusedRecord x r) (spells_once s t).0 h

-- ---- frame to matrix
refused_frame_once : {text : List ℕ} {r s : Refusal} → RefusedFrame text r → RefusedFrame text s → r ≡ s
refused_frame_once (bad_frame a) (bad_frame b) = ap BadFrame (bad_frame_once a b)
refused_frame_once (bad_frame a) (bad_check_word s w) = absurd (spelled_not_bad s a)
refused_frame_once (bad_frame a) (bad_record s r) = absurd (spelled_not_bad s a)
refused_frame_once (bad_check_word s w) (bad_frame b) = absurd (spelled_not_bad s b)
refused_frame_once (bad_check_word s w) (bad_check_word t v) = refl
refused_frame_once (bad_check_word s w) (bad_record t r) = absurd (wrong_not_right s w t)
refused_frame_once (bad_record s r) (bad_frame b) = absurd (spelled_not_bad s b)
refused_frame_once (bad_record s r) (bad_check_word t v) = absurd (wrong_not_right t v s)
refused_frame_once (bad_record s r) (bad_record t q) = refused_once (refused_as s t r) q

accepted_frame_not_refused : {text : List ℕ} {m : Matrix} {r : Refusal} → AcceptedFrame text m → RefusedFrame text r → ⊥
accepted_frame_not_refused a (bad_frame b) = spelled_not_bad a.spells b
accepted_frame_not_refused a (bad_check_word s w) = wrong_not_right s w a.spells
accepted_frame_not_refused a (bad_record s r) = accepted_not_refused a.record_accepted (refused_as s a.spells r)

-- two answers of the frame reader that fit its promise are equal
pub frame_to_matrix_said_once : {text : List ℕ} {a b : Said Matrix} → FrameToMatrix text a → FrameToMatrix text b → a ≡ b
frame_to_matrix_said_once (refused_frame r) (refused_frame s) = ap refusal (refused_frame_once r s)
frame_to_matrix_said_once (refused_frame r) (accepted_frame b) = absurd (accepted_frame_not_refused b r)
frame_to_matrix_said_once (accepted_frame a) (refused_frame s) = absurd (accepted_frame_not_refused a s)
frame_to_matrix_said_once (accepted_frame a) (accepted_frame b) = ap accepted (spells_once a.spells b.spells).0

-- so the value that is returned is one
pub frame_to_matrix_returns_once : {text : List ℕ} (a b : Result Matrix Refusal) → FrameToMatrix text (said a) → FrameToMatrix text (said b) → a ≡ b
frame_to_matrix_returns_once a b p q = said_told a b (frame_to_matrix_said_once p q)

-- ---- matrix to frame
-- two answers of the frame writer that fit its promise are equal, and so are the buffers
pub matrix_to_frame_said_once :
    {m : Matrix} {before s t : List ℕ} {a b : Said (Unit {0})} → MatrixToFrame m before a s → MatrixToFrame m before b t →
    (a ≡ b) × (s ≡ t)
matrix_to_frame_said_once (refused_record r) (refused_record q) = (ap refusal (refused_once r q), refl)
matrix_to_frame_said_once (refused_record r) (no_room a h) = absurd (accepted_not_refused a r)
matrix_to_frame_said_once (refused_record r) (framed a h) = absurd (accepted_not_refused a r)
matrix_to_frame_said_once (no_room a h) (refused_record q) = absurd (accepted_not_refused a q)
matrix_to_frame_said_once (no_room a h) (no_room b k) = (refl, refl)
matrix_to_frame_said_once (no_room a h) (framed b k) = absurd (omega arith)
matrix_to_frame_said_once (framed a h) (refused_record q) = absurd (accepted_not_refused a q)
matrix_to_frame_said_once (framed a h) (no_room b k) = absurd (omega arith)
matrix_to_frame_said_once (framed a h) (framed b k) = (refl, refl)

-- so the value that is returned is one
pub matrix_to_frame_returns_once :
    {m : Matrix} {before s t : List ℕ} (a b : Result (Unit {0}) Refusal) → MatrixToFrame m before (said a) s → MatrixToFrame m before (said b) t →
    (a ≡ b) × (s ≡ t)
matrix_to_frame_returns_once a b p q = let once = matrix_to_frame_said_once p q in (said_told a b once.0, once.1)
