-- Document 01, "The form": what a form is, by its grammar, and what it means that a text is the form of a letter list.
use Rattle.std.specs.Prelude.{ℕ, ◌<◌, Bool, true, false, List, [], ◌∷◌, ◌++◌, ◌≡◌}
use Rattle.matrix.specs.Letter.{H, S, T, W, X, matrix_of}
use Rattle.matrix.specs.Matrix.{Same}
use Rattle.form.specs.Tail.{tails, tail_text}

-- "syllables HT or SHT"
pub data Syllable : Type 0 where
  HT : Syllable
  SHT : Syllable

unfoldable pub syllable_text : Syllable → List ℕ
syllable_text HT = H ∷ T ∷ []
syllable_text SHT = S ∷ H ∷ T ∷ []

unfoldable pub syllables_text : List Syllable → List ℕ
syllables_text [] = []
syllables_text (s ∷ rest) = syllable_text s ++ syllables_text rest

-- "(T or nothing)"
unfoldable pub front_text : Bool → List ℕ
front_text true = T ∷ []
front_text false = []

-- the parts of a form, in order: T or nothing, any number of syllables, a tail by its number
pub record Parts : Type 0 where
  pub front : Bool
  pub syllables : List Syllable
  pub tail : ℕ

unfoldable pub form_text : Parts → List ℕ
form_text p = front_text p.front ++ (syllables_text p.syllables ++ tail_text p.tail)

-- a text is a form: "(T or nothing), then any number of syllables HT or SHT, then a tail"
pub record Form (text : List ℕ) : Type 0 where
  pub parts : Parts
  pub in_tails : parts.tail < tails
  pub spelled : text ≡ form_text parts

-- the letters that forms are spelled with
pub data FormLetter : ℕ → Type 0 where
  letter_H : FormLetter H
  letter_S : FormLetter S
  letter_T : FormLetter T
  letter_W : FormLetter W
  letter_X : FormLetter X

-- the text f is the form of the letter list w: a form by the grammar, with the same matrix, phase included
pub record FormOf (w f : List ℕ) : Type 0 where
  pub form : Form f
  pub same : Same (matrix_of f) (matrix_of w)
