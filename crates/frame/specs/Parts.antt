-- The numbers that the digits of a frame stand for.
use Rattle.std.specs.Prelude.{ℕ, ◌+◌, ◌*◌, ◌/◌, ◌%◌, List, fold}

-- the number below sixteen that a digit stands for: its lowest four bits, with 9 more for a letter
unfoldable pub digit_value : ℕ → ℕ
digit_value b = (b % 16 + 9 * (b / 64)) % 16

-- the number that digits stand for, the first the most significant
abbrev pub number_of : List ℕ → ℕ
number_of text = fold (λ n b. n * 16 + digit_value b) 0 text
