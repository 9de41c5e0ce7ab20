-- Document 01, "The form": the 192 tails with their numbers, fields and texts.
use Rattle.std.specs.Prelude.{ℕ, zero, suc, ◌/◌, ◌%◌, List, [], ◌∷◌, ◌++◌, replicate}
use Rattle.matrix.specs.Letter.{H, S, X, W}

-- "The tails are the 192 Clifford elements, numbered 64·h + 32·b + 8·c + a."
abbrev pub tails : ℕ
tails = 192

-- "h = 0, 1, 2 for nothing, H, SH, and b, c, a the counts of X, S, W"
abbrev pub tail_h : ℕ → ℕ
tail_h n = n / 64

abbrev pub tail_b : ℕ → ℕ
tail_b n = n / 32 % 2

abbrev pub tail_c : ℕ → ℕ
tail_c n = n / 8 % 4

abbrev pub tail_a : ℕ → ℕ
tail_a n = n % 8

-- "(nothing, H or SH)"
unfoldable pub head_text : ℕ → List ℕ
head_text zero = []
head_text (suc zero) = H ∷ []
head_text (suc (suc h)) = S ∷ H ∷ []

-- "then X at most once, S at most three times, W at most seven times"
unfoldable pub tail_text : ℕ → List ℕ
tail_text n = head_text (tail_h n) ++ (replicate (tail_b n) X ++ (replicate (tail_c n) S ++ replicate (tail_a n) W))
