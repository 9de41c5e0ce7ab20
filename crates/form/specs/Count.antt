-- Document 01, "The form": the T-count and the H-count of a text.
use Rattle.std.specs.Prelude.{ℕ, suc, Bool, false, cond, List, [], ◌∷◌, eqb}
use Rattle.matrix.specs.Letter.{H, T}

-- "T-count: the T's in the text."
unfoldable pub t_count : List ℕ → ℕ
t_count [] = 0
t_count (b ∷ s) = cond (eqb b T) (suc (t_count s)) (t_count s)

-- the text begins with a T
unfoldable pub begins_with_T : List ℕ → Bool
begins_with_T [] = false
begins_with_T (b ∷ s) = eqb b T

-- "H-count: the number of syllables HT and SHT": in a form a syllable ends where a T follows an H, and nowhere else
-- (`syllables_are_counted` shows that this number is the number of the form's syllables).
unfoldable pub h_count : List ℕ → ℕ
h_count [] = 0
h_count (b ∷ s) = cond (eqb b H) (cond (begins_with_T s) (suc (h_count s)) (h_count s)) (h_count s)
