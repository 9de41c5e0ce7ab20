-- The answer word of the calls for C and Rust: what a call says, in document 01's terms, as one number of 64 bits.
use Rattle.std.specs.Prelude.{ℕ, ◌+◌, ◌*◌, ◌^◌, ◌<◌, ◌≡◌}
use Rattle.answer.specs.declared.Figures.{Figures}
use Rattle.answer.specs.Refusal.{Said, accepted, refused}
use Rattle.matrix.specs.declared.Matrix.{Matrix}
use Rattle.read_form.specs.declared.Reading.{Reading}
use Rattle.compare.specs.declared.Which.{Which}
use Rattle.compare.specs.declared.Which.TheVariants.{First, Second}
use Rattle.compare.specs.Promise.{Verdict, same, phase, different, refused as refused_of}

-- a refusal: its number in bits 0 to 7, which are 0 where the input was accepted, and its place in bits 8 to 39
abbrev pub refusal_word : ℕ → ℕ → ℕ
refusal_word number place = number + 2 ^ 8 * place

-- an answer with a form: length in bits 8 to 23, T-count in 24 to 39, H-count in 40 to 55
abbrev pub figures_word : Figures → ℕ
figures_word x = 2 ^ 8 * x.length + 2 ^ 24 * x.tcount + 2 ^ 40 * x.hcount

-- the form reader's: the same, and the tail number in bits 56 to 63
abbrev pub reading_word : Reading → ℕ
reading_word x = figures_word x.figures + 2 ^ 56 * x.tail

-- an answer with a matrix: the exponent in bits 8 to 39; the coefficients are lent
abbrev pub record_word : Matrix → ℕ
record_word m = 2 ^ 8 * m.exponent

-- the frame writer's answer has no values
abbrev pub frame_word : Unit {0} → ℕ
frame_word nothing = 0

-- what is said, packed, given how an accepted answer's values are
abbrev pub packed : {A : Type 0} → (A → ℕ) → Said A → ℕ
packed word (accepted values) = word values
packed word (refused number place) = refusal_word number place

-- which string: 0 for the first, 1 for the second
abbrev pub which_number : Which → ℕ
which_number First = 0
which_number Second = 1

-- a comparison's: in bits 8 to 15 0 for same, 1 to 7 for a phase, 8 for different; a refusal has which string in bit 40
abbrev pub verdict_word : Verdict → ℕ
verdict_word same = 0
verdict_word (phase j) = 2 ^ 8 * j
verdict_word different = 2 ^ 8 * 8
verdict_word (refused_of which number place) = refusal_word number place + 2 ^ 40 * which_number which

-- Each value fits in its bits, so that the word tells what was said.
pub record LegibleRefusal (number place : ℕ) : Type 0 where
  pub not_zero : 0 < number
  pub number_fits : number < 2 ^ 8
  pub place_fits : place < 2 ^ 32

pub record LegibleFigures (x : Figures) : Type 0 where
  pub length : x.length < 2 ^ 16
  pub tcount : x.tcount < 2 ^ 16
  pub hcount : x.hcount < 2 ^ 16

pub record LegibleReading (x : Reading) : Type 0 where
  pub figures : LegibleFigures x.figures
  pub tail : x.tail < 2 ^ 8

pub record LegibleRecord (m : Matrix) : Type 0 where
  pub exponent : m.exponent < 2 ^ 32

abbrev pub Legible : {A : Type 0} → (A → Type 0) → Said A → Type 0
Legible Values (accepted values) = Values values
Legible Values (refused number place) = LegibleRefusal number place

abbrev pub LegibleVerdict : Verdict → Type 0
LegibleVerdict same = Unit {0}
LegibleVerdict (phase j) = (0 < j) × (j < 8)
LegibleVerdict different = Unit {0}
LegibleVerdict (refused_of which number place) = LegibleRefusal number place

-- A word answers for a promise: it is something that the promise lets be said, packed, each value in its bits.
pub record Answers {A : Type 0} (word_of : A → ℕ) (LegibleAs : A → Type 0) (Promise : A → Type 0) (word : ℕ) : Type 0 where
  pub answer : A
  pub promised : Promise answer
  pub legible : LegibleAs answer
  pub says : word ≡ word_of answer
