-- Document 01, "Refusals": the table. A refusal has its number and its place, and nothing else.
use Rattle.std.specs.Prelude.{ℕ, Result, Ok, Err}
use Rattle.answer.specs.Limits.{check_word_place}
use Rattle.answer.specs.declared.Refusal.{Refusal}
use Rattle.answer.specs.declared.Refusal.TheVariants.{BadLetter, TooLong, NoRoom, HighExponent, WideCoefficient, NotUnitary, NotForm, HighLeastExponent, BadFrame, BadCheckWord}

-- the column "No."
abbrev pub number : Refusal → ℕ
number (BadLetter place) = 1
number (TooLong limit) = 2
number (NoRoom needed) = 3
number HighExponent = 4
number (WideCoefficient index) = 5
number NotUnitary = 6
number (NotForm prefix) = 7
number HighLeastExponent = 8
number (BadFrame place) = 9
number BadCheckWord = 10

-- the column "Place returned"
abbrev pub place : Refusal → ℕ
place (BadLetter p) = p
place (TooLong limit) = limit
place (NoRoom needed) = needed
place HighExponent = 0
place (WideCoefficient index) = index
place NotUnitary = 0
place (NotForm prefix) = prefix
place HighLeastExponent = 0
place (BadFrame p) = p
place BadCheckWord = check_word_place

-- What a call says, in document 01's terms: an answer with its values, or a refusal with its number and place.
pub data Said (A : Type 0) : Type 0 where
  accepted : A → Said A
  refused : ℕ → ℕ → Said A

-- a refusal of the table, as it is said
abbrev pub refusal : {A : Type 0} → Refusal → Said A
refusal r = refused (number r) (place r)

-- the paper's number and values for each case of what a call returns
abbrev pub said : {A : Type 0} → Result A Refusal → Said A
said (Ok values) = accepted values
said (Err r) = refusal r
