-- T on the right of a tail: it moves to the left of the tail's X, S and W, and there may meet another T. One test over
-- the tails for each rule. Assumes nothing.
use mathlib.Core.Bool.{Bool, ◌&&◌}
use mathlib.Core.List.{[], ◌∷◌, ◌++◌}
use Prim.Native.Nat.{ℕ, ◌+◌, ◌*◌, ◌-◌, ◌/◌, ◌%◌, ◌<◌}
use lib.Dec.{T as Holds, eqb, eqb→eq}
use Rattle.matrix.specs.Letter.{T}
use Rattle.form.specs.Tail.{tails, tail_h, head_text, tail_text}
use Rattle.form.proofs.Every.{every, every_at}
use Rattle.tail.specs.Product.{PastT, BetweenT}
use Rattle.matrix.proofs.Test.{both}
use Rattle.tail.proofs.Test.{texts_test, texts_same}

-- what is right of T once T has moved to the left of X^b S^c W^a: with b = 1, c grows by 1 and a falls by 1
abbrev pub passed : ℕ → ℕ
passed n = n / 32 % 2 * 32 + (n / 8 + n / 32 % 2) % 4 * 8 + (n + 7 * (n / 32 % 2)) % 8

-- the tail that T, X^b S^c W^a and T are: c grows by 1, or with b = 1 a grows by 1
abbrev pub joined : ℕ → ℕ
joined n = n / 32 % 2 * 32 + (n / 8 + (1 - n / 32 % 2)) % 4 * 8 + (n + n / 32 % 2) % 8

past_test : ℕ → ℕ → Bool
past_test n m = eqb (tail_h m) 0 && texts_test (head_text (tail_h n) ++ T ∷ tail_text m) (tail_text n ++ T ∷ [])

past_by_test : (n m : ℕ) → Holds (past_test n m) → PastT n m
unfolding past_test
past_by_test n m h =
    let parts = both (eqb (tail_h m) 0) _ h in
    record { headless = eqb→eq (tail_h m) 0 parts.0; same = texts_same _ _ parts.1 }

all_past : Holds (every tails (λ n. past_test n (passed n)))
unfolding every past_test texts_test head_text tail_text
all_past = tt

pub passed_T : (n : ℕ) → n < tails → PastT n (passed n)
passed_T n n< = past_by_test n (passed n) (every_at tails (λ (k : ℕ). past_test k (passed k)) all_past n n<)

between_test : ℕ → ℕ → Bool
between_test n m = eqb (tail_h m) 0 && texts_test (tail_text m) (T ∷ (tail_text n ++ T ∷ []))

between_by_test : (n m : ℕ) → Holds (between_test n m) → BetweenT n m
unfolding between_test
between_by_test n m h =
    let parts = both (eqb (tail_h m) 0) _ h in
    record { headless = eqb→eq (tail_h m) 0 parts.0; same = texts_same _ _ parts.1 }

all_between : Holds (every 64 (λ n. between_test n (joined n)))
unfolding every between_test texts_test head_text tail_text
all_between = tt

pub joined_T : (n : ℕ) → n < 64 → BetweenT n (joined n)
joined_T n n< = between_by_test n (joined n) (every_at 64 (λ (k : ℕ). between_test k (joined k)) all_between n n<)
