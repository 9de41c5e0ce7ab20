-- A form as it is kept while letters come: codes of syllables and a tail's number; and the text that these spell.
use Rattle.std.specs.Prelude.{ℕ, ◌<◌, List, [], ◌∷◌, ◌++◌}
use Rattle.matrix.specs.Letter.{T}
use Rattle.form.specs.Tail.{tails, head_text, tail_text}

-- what is kept: the codes, the last first, and the number of the tail that follows them
pub record Spelling : Type 0 where
  pub codes : List ℕ
  pub tail : ℕ

-- Codes, the last first: 0 is T and stands at the bottom alone, 1 is HT, 2 is SHT.
pub data Codes : List ℕ → Type 0 where
  no_codes : Codes []
  front : Codes (0 ∷ [])
  HT_above : {below : List ℕ} → Codes below → Codes (1 ∷ below)
  SHT_above : {below : List ℕ} → Codes below → Codes (2 ∷ below)

-- the text of codes: (nothing, H or SH) and T for each, the last at the right end
unfoldable pub codes_text : List ℕ → List ℕ
codes_text [] = []
codes_text (code ∷ below) = codes_text below ++ (head_text code ++ T ∷ [])

-- the text that codes and a tail spell
unfoldable pub spelled_text : Spelling → List ℕ
spelled_text s = codes_text s.codes ++ tail_text s.tail

-- codes and a tail are well formed; what they spell is then a form
pub record WellFormed (s : Spelling) : Type 0 where
  pub codes : Codes s.codes
  pub in_tails : s.tail < tails
