-- Document 01, "The programs": "one line for each: `ok`, T-count, H-count, form, or `no`, refusal, place, with one space
-- between. An empty form leaves the last space."
use Rattle.std.specs.Prelude.{ℕ, List, [], ◌∷◌, ◌++◌, ◌≡◌, take}
use Rattle.answer.specs.declared.Figures.{Figures}
use Rattle.answer.specs.Refusal.{Said, accepted, refused}
use Rattle.lines.specs.Line.{line_end}
use Rattle.report.specs.Decimal.{decimal}

abbrev pub space : ℕ
space = 32

-- the words `ok` and `no`
abbrev pub ok : List ℕ
ok = 111 ∷ 107 ∷ []

abbrev pub no : List ℕ
no = 110 ∷ 111 ∷ []

-- a number after a space
unfoldable pub field : ℕ → List ℕ
field n = space ∷ decimal n

-- a word and two numbers
unfoldable pub head : List ℕ → ℕ → ℕ → List ℕ
head word first second = word ++ (field first ++ field second)

-- the line of a form with its T-count and H-count
unfoldable pub ok_line : ℕ → ℕ → List ℕ → List ℕ
ok_line tcount hcount form = head ok tcount hcount ++ (space ∷ (form ++ (line_end ∷ [])))

-- the line of a refusal
unfoldable pub no_line : ℕ → ℕ → List ℕ
no_line number place = head no number place ++ (line_end ∷ [])

-- the line of an answer; an answer with a form has it at the start of the buffer
unfoldable pub answer_line : Said Figures → List ℕ → List ℕ
answer_line (accepted figures) buffer = ok_line figures.tcount figures.hcount (take figures.length buffer)
answer_line (refused number place) buffer = no_line number place

-- The line added to the output for a text: that of the answer which a call gives to the text, with the form in the buffer that
-- it leaves. `Promise` is the call's promise.
pub record Answered (Promise : (text buffer : List ℕ) → Said Figures → List ℕ → Type 0) (text buffer before after : List ℕ) : Type 0 where
  pub answer : Said Figures
  pub left : List ℕ
  pub promised : Promise text buffer answer left
  pub line : after ≡ before ++ answer_line answer left

-- The longest number of a machine has twenty digits: room for a number, for a field, and for a line with an empty form.
abbrev pub number_room : ℕ
number_room = 20

abbrev pub field_room : ℕ
field_room = 21

abbrev pub line_room : ℕ
line_room = 46
