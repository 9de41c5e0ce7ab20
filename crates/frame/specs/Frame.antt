-- Document 01, "Frames": the house format of a matrix record.
use Rattle.std.specs.Prelude.{◌≡◌, ℕ, ◌+◌, ◌-◌, ◌%◌, ◌^◌, ◌<◌, List, [], ◌∷◌, ◌++◌, ℤ, pos, negsuc}
use Rattle.lists.specs.List.{Every}
use Rattle.matrix.specs.declared.Matrix.{Matrix}
use Rattle.coefficients.specs.Coefficients.{coefficients}
use Rattle.frame.specs.Digit.{digits}

-- "sixteen coefficients in two's complement": the word of a coefficient
unfoldable pub word : ℤ → ℕ
word (pos n) = n
word (negsuc n) = 2 ^ 32 - (n + 1)

-- the words of a list of coefficients
unfoldable pub words : List ℤ → List ℕ
words [] = []
words (z ∷ rest) = word z ∷ words rest

-- each word in eight digits
unfoldable pub words_text : List ℕ → List ℕ
words_text [] = []
words_text (w ∷ rest) = digits 8 w ++ words_text rest

-- the sum of words
unfoldable pub total : List ℕ → ℕ
total [] = 0
total (w ∷ rest) = w + total rest

-- "a check word: the sum, modulo 2^32, of the exponent and the sixteen words"
unfoldable pub check_word : Matrix → ℕ
check_word m = (m.exponent + total (words (coefficients m))) % 2 ^ 32

-- "exponent (2), sixteen coefficients (8 each), and a check word (8)"
unfoldable pub frame_text : Matrix → ℕ → List ℕ
frame_text m check = digits 2 m.exponent ++ (words_text (words (coefficients m)) ++ digits 8 check)

-- a whole number that 32 bits hold in two's complement
pub data InWord : ℤ → Type 0 where
  from_zero : {n : ℕ} → n < 2 ^ 31 → InWord (pos n)
  below_zero : {n : ℕ} → n < 2 ^ 31 → InWord (negsuc n)

abbrev pub InWords : List ℤ → Type 0
InWords list = Every InWord list

-- a text of 138 digits spells a record and a check word, which may be the right one or not
pub record Spells (text : List ℕ) (m : Matrix) (check : ℕ) : Type 0 where
  pub exponent : m.exponent < 256
  pub coefficients : InWords (coefficients m)
  pub check_word : check < 2 ^ 32
  pub digits : text ≡ frame_text m check
