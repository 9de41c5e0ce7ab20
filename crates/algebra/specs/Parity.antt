-- Parity: which whole numbers are odd, and half of one, rounded down.
use Rattle.std.specs.Prelude.{ℕ, ◌/◌, ◌%◌, Bool, not, eqb, ℤ, pos, negsuc}

abbrev pub odd_natural : ℕ → Bool
odd_natural n = eqb (n % 2) 1

-- -(n + 1) is odd where n is not
abbrev pub odd : ℤ → Bool
odd (pos n) = odd_natural n
odd (negsuc n) = not (odd_natural n)

abbrev pub half : ℤ → ℤ
half (pos n) = pos (n / 2)
half (negsuc n) = negsuc (n / 2)
