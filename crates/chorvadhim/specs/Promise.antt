-- What each call for C and Rust promises: the promise of the library's call, of the answer word and of all that was lent.
use Rattle.std.specs.Prelude.{ℕ, List, ◌≡◌, ℤ}
use Rattle.answer.specs.declared.Figures.{Figures}
use Rattle.answer.specs.Refusal.{Said, accepted, refused}
use Rattle.matrix.specs.declared.Matrix.{Matrix}
use Rattle.coefficients.specs.Coefficients.{coefficients, record_of}
use Rattle.string_to_form.specs.Promise.{StringToForm}
use Rattle.matrix_to_form.specs.Promise.{MatrixToForm}
use Rattle.frame_to_form.specs.Promise.{FrameToForm}
use Rattle.read_form.specs.Promise.{ReadForm}
use Rattle.compare.specs.Promise.{Compare}
use Rattle.string_to_matrix.specs.Promise.{StringToMatrix}
use Rattle.frame.specs.Calls.{FrameToMatrix, MatrixToFrame}
use Rattle.chorvadhim.specs.Word.{Answers, packed, figures_word, reading_word, record_word, frame_word, verdict_word, Legible, LegibleFigures, LegibleReading, LegibleRecord, LegibleVerdict}

-- calls that write a form into a lent buffer
abbrev pub AnswersForm : (Said Figures → Type 0) → ℕ → Type 0
AnswersForm = Answers (packed figures_word) (Legible LegibleFigures)

abbrev pub StringToFormWord : (text before : List ℕ) → ℕ → (after : List ℕ) → Type 0
StringToFormWord text before word after = AnswersForm (λ answer. StringToForm text before answer after) word

abbrev pub MatrixToFormWord : (exponent : ℕ) (lent : List ℤ) (before : List ℕ) → ℕ → (after : List ℕ) → Type 0
MatrixToFormWord exponent lent before word after =
    AnswersForm (λ answer. MatrixToForm (record_of exponent lent) before answer after) word

abbrev pub FrameToFormWord : (text before : List ℕ) → ℕ → (after : List ℕ) → Type 0
FrameToFormWord text before word after = AnswersForm (λ answer. FrameToForm text before answer after) word

abbrev pub ReadFormWord : List ℕ → ℕ → Type 0
ReadFormWord text word = Answers (packed reading_word) (Legible LegibleReading) (ReadForm text) word

abbrev pub CompareWord : (first second : List ℕ) → ℕ → Type 0
CompareWord first second word = Answers verdict_word LegibleVerdict (Compare first second) word

-- calls that write a record's coefficients into a lent array; after a refusal it has what was there
abbrev pub left_in : Said Matrix → List ℤ → List ℤ
left_in (accepted m) before = coefficients m
left_in (refused number place) before = before

abbrev pub AnswersRecord : (Said Matrix → Type 0) → (before : List ℤ) → ℕ → (after : List ℤ) → Type 0
AnswersRecord Promise before word after =
    Answers (packed record_word) (Legible LegibleRecord) (λ answer. Promise answer × (after ≡ left_in answer before)) word

abbrev pub StringToMatrixWord : List ℕ → (before : List ℤ) → ℕ → (after : List ℤ) → Type 0
StringToMatrixWord text before word after = AnswersRecord (StringToMatrix text) before word after

abbrev pub FrameToMatrixWord : List ℕ → (before : List ℤ) → ℕ → (after : List ℤ) → Type 0
FrameToMatrixWord text before word after = AnswersRecord (FrameToMatrix text) before word after

-- the call that writes a frame into a lent buffer
abbrev pub MatrixToFrameWord : (exponent : ℕ) (lent : List ℤ) (before : List ℕ) → ℕ → (after : List ℕ) → Type 0
MatrixToFrameWord exponent lent before word after =
    Answers (packed frame_word) (Legible (λ nothing. Unit {0})) (λ answer. MatrixToFrame (record_of exponent lent) before answer after) word
