-- The promises of the calls for C and Rust fix their answers: two words, and all that was lent at exit, that both fit a
-- call's promise are equal. Each from what the library proves of its own call. Assumes nothing.
use Prim.Native.Nat.{ℕ}
use mathlib.Core.List.{List}
use mathlib.Core.Path.{◌≡◌, ap, sym, ◌∙◌}
use lib.IntN.{ℤ}
use Rattle.matrix.specs.declared.Matrix.{Matrix}
use Rattle.answer.specs.Refusal.{Said}
use Rattle.read_form.proofs.Once.{read_form_said_once}
use Rattle.compare.proofs.Once.{compare_said_once}
use Rattle.string_to_matrix.proofs.Once.{string_to_matrix_said_once}
use Rattle.frame.proofs.Once.{frame_to_matrix_said_once, matrix_to_frame_said_once}
use Rattle.demands.specs.Input.{of_string, of_record, of_frame}
use Rattle.demands.proofs.First.{answers_once}
use Rattle.chorvadhim.specs.Word.{Answers}
use Rattle.chorvadhim.specs.Promise.{left_in, AnswersRecord, StringToFormWord, MatrixToFormWord, FrameToFormWord, ReadFormWord, CompareWord, StringToMatrixWord, FrameToMatrixWord, MatrixToFrameWord}

-- where two promises fix the answer, their words are equal; and so is what they fix beside it
words_once :
    {A : Type 0} {word_of : A → ℕ} {LegibleAs Promise Promise' : A → Type 0} {Beside : Type 0} {w w' : ℕ} →
    ((a b : A) → Promise a → Promise' b → (a ≡ b) × Beside) →
    Answers word_of LegibleAs Promise w → Answers word_of LegibleAs Promise' w' → (w ≡ w') × Beside
words_once {word_of = word_of} once p q =
    let fixed = once p.answer q.answer p.promised q.promised in
    (p.says ∙ ap word_of fixed.0 ∙ sym q.says, fixed.1)

-- calls that write a form into a lent buffer

pub string_to_form_word_once :
    {text before after after' : List ℕ} {w w' : ℕ} → StringToFormWord text before w after →
    StringToFormWord text before w' after' → (w ≡ w') × (after ≡ after')
string_to_form_word_once = words_once (λ a b p q. answers_once (of_string p) (of_string q))

pub matrix_to_form_word_once :
    (exponent : ℕ) (lent : List ℤ) {before after after' : List ℕ} {w w' : ℕ} → MatrixToFormWord exponent lent before w after →
    MatrixToFormWord exponent lent before w' after' → (w ≡ w') × (after ≡ after')
matrix_to_form_word_once exponent lent = words_once (λ a b p q. answers_once (of_record p) (of_record q))

pub frame_to_form_word_once :
    {text before after after' : List ℕ} {w w' : ℕ} → FrameToFormWord text before w after →
    FrameToFormWord text before w' after' → (w ≡ w') × (after ≡ after')
frame_to_form_word_once = words_once (λ a b p q. answers_once (of_frame p) (of_frame q))

-- calls that write nothing

pub read_form_word_once : {text : List ℕ} {w w' : ℕ} → ReadFormWord text w → ReadFormWord text w' → w ≡ w'
read_form_word_once p q = (words_once {Beside = Unit {0}} (λ a b p q. (read_form_said_once p q, tt)) p q).0

pub compare_word_once :
    {first second : List ℕ} {w w' : ℕ} → CompareWord first second w → CompareWord first second w' → w ≡ w'
compare_word_once p q = (words_once {Beside = Unit {0}} (λ a b p q. (compare_said_once p q, tt)) p q).0

-- calls that write a record's coefficients into a lent array: the answer fixes what is left there

record_words_once :
    {Promise : Said Matrix → Type 0} {before after after' : List ℤ} {w w' : ℕ} →
    ((a b : Said Matrix) → Promise a → Promise b → a ≡ b) →
    AnswersRecord Promise before w after → AnswersRecord Promise before w' after' → (w ≡ w') × (after ≡ after')
record_words_once {before = before} once =
    words_once (λ a b p q.
    let same = once a b p.0 q.0 in
    (same, p.1 ∙ ap (λ (a : Said Matrix). left_in a before) same ∙ sym q.1))

pub string_to_matrix_word_once :
    {text : List ℕ} {before after after' : List ℤ} {w w' : ℕ} → StringToMatrixWord text before w after →
    StringToMatrixWord text before w' after' → (w ≡ w') × (after ≡ after')
string_to_matrix_word_once = record_words_once (λ a b. string_to_matrix_said_once)

pub frame_to_matrix_word_once :
    {text : List ℕ} {before after after' : List ℤ} {w w' : ℕ} → FrameToMatrixWord text before w after →
    FrameToMatrixWord text before w' after' → (w ≡ w') × (after ≡ after')
frame_to_matrix_word_once = record_words_once (λ a b. frame_to_matrix_said_once)

-- the call that writes a frame into a lent buffer

pub matrix_to_frame_word_once :
    (exponent : ℕ) (lent : List ℤ) {before after after' : List ℕ} {w w' : ℕ} →
    MatrixToFrameWord exponent lent before w after → MatrixToFrameWord exponent lent before w' after' →
    (w ≡ w') × (after ≡ after')
matrix_to_frame_word_once exponent lent = words_once (λ a b. matrix_to_frame_said_once)
