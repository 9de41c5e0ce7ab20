-- Numbers as the programs write them: in decimal, without leading zeros.
use Rattle.std.specs.Prelude.{ℕ, zero, suc, ◌+◌, ◌/◌, ◌%◌, cond, List, [], ◌∷◌, ◌++◌, ltb}

-- the digit for a number below ten, as a byte
unfoldable pub digit : ℕ → ℕ
digit n = 48 + n

-- the digits of a number, the most significant first; a first digit and at most so many more
unfoldable pub digits_of : ℕ → ℕ → List ℕ
digits_of zero n = digit n ∷ []
digits_of (suc more) n = let longer = digits_of more (n / 10) ++ (digit (n % 10) ∷ []) in cond (ltb n 10) (digit n ∷ []) longer

-- a number has fewer digits after its first than its value
unfoldable pub decimal : ℕ → List ℕ
decimal n = digits_of n n
