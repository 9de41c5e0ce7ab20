-- Document 01, "Worked cases": the fifteen cases with a star, in one table.
use Rattle.std.specs.Prelude.{ℕ, Bool, true, false, List, [], ◌∷◌}
use Prim.Native.String.{String}
use Rattle.matrix.specs.Text.{bytes}
use Rattle.form.specs.Form.{Syllable, HT, SHT, Parts, FormOf}

-- a row: a string, its form as a text, and the form's parts
pub record Row : Type 0 where
  pub string : List ℕ
  pub form : List ℕ
  pub parts : Parts

abbrev pub row : String → String → Bool → List Syllable → ℕ → Row
row string form front syllables tail =
    record { string = bytes string; form = bytes form; parts = record { front = front; syllables = syllables; tail = tail } }

unfoldable pub table : List Row
table =
    row "" "" false [] 0
    ∷ row "TTTTTTTT" "" false [] 0
    ∷ row "HH" "" false [] 0
    ∷ row "TT" "S" false [] 8
    ∷ row "Z" "SS" false [] 16
    ∷ row "Y" "XSSWW" false [] 50
    ∷ row "HSHSHS" "W" false [] 1
    ∷ row "XT" "TXSWWWWWWW" true [] 47
    ∷ row "TXT" "XW" false [] 33
    ∷ row "STH" "TSH" true [] 128
    ∷ row "ZH" "HX" false [] 96
    ∷ row "XH" "HSS" false [] 80
    ∷ row "HTTHT" "SHTX" false (SHT ∷ []) 32
    ∷ row "THSHSHTH" "HW" false [] 65
    ∷ row "HTHT" "HTHT" false (HT ∷ HT ∷ []) 0
    ∷ []

-- what is said of each row
abbrev pub Right : Row → Type 0
Right r = FormOf r.string r.form
