-- Document 01, "Frames": lower-case hexadecimal digits, and numbers written in them.
use Rattle.std.specs.Prelude.{ℕ, zero, suc, ◌+◌, ◌/◌, ◌%◌, Bool, true, cond, ◌&&◌, List, [], ◌∷◌, ◌++◌, nat_le, nat_lt}
use Rattle.lists.specs.List.{AllPass, FirstFailing}

-- the digit for a number below sixteen: 0-9, then a-f
unfoldable pub digit : ℕ → ℕ
digit n = cond (nat_lt n 10) (48 + n) (87 + n)

-- "a digit 0-9 a-f"
unfoldable pub is_digit : ℕ → Bool
is_digit b = cond (nat_le 48 b && nat_le b 57) true (nat_le 97 b && nat_le b 102)

-- a number in so many digits, "most significant digit first"
unfoldable pub digits : ℕ → ℕ → List ℕ
digits zero n = []
digits (suc count) n = digits count (n / 16) ++ (digit (n % 16) ∷ [])

abbrev pub Digits : List ℕ → Type 0
Digits text = AllPass is_digit text

-- "first bad digit": the place of the first byte that is no digit
abbrev pub FirstBadDigit : List ℕ → ℕ → Type 0
FirstBadDigit text place = FirstFailing is_digit text place
