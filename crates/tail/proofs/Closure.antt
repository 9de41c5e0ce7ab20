-- Each product of a tail with one of the six letters other than T is a tail, told by its fields: one test over the 192
-- tails and the six letters. Assumes nothing.
use mathlib.Core.List.{List, [], ◌∷◌}
use Prim.Native.Nat.{ℕ, zero, suc, ◌+◌, ◌*◌, ◌-◌, ◌/◌, ◌%◌, ◌<◌}
use native.Mathlib.Omega.{arith}
use lib.Dec.{T as Holds}
use lib.ListN.{length, get_or}
use Rattle.form.specs.Tail.{tails, tail_h, tail_b, tail_c, tail_a}
use Rattle.form.proofs.Every.{every, every_at}
use Rattle.form.proofs.Grammar.{tail_number}
use Rattle.tail.specs.Product.{six_letters, Product}
use Rattle.tail.proofs.Table.{entry_test, product_at}

-- the products with H of the tails that have no W, in order; W passes H
H_products : List ℕ
H_products = 64 ∷ 128 ∷ 96 ∷ 160 ∷ 80 ∷ 178 ∷ 116 ∷ 150 ∷ 0 ∷ 185 ∷ 32 ∷ 143 ∷ 16 ∷ 153 ∷ 52 ∷ 175 ∷ 8 ∷ 89 ∷ 58 ∷ 111 ∷ 24 ∷ 121 ∷ 46 ∷ 79 ∷ []

-- the product of tail n with the letter of a column, by "SX = ω² X S³", "Y = ω² X S²" and "Z = S²"
product_number : ℕ → ℕ → ℕ
product_number n zero = let m = get_or H_products (n / 8) 0 in tail_number (tail_h m) (tail_b m) (tail_c m) ((tail_a m + tail_a n) % 8)
product_number n (suc zero) = tail_number (tail_h n) (tail_b n) (tail_c n) ((tail_a n + 1) % 8)
product_number n (suc (suc zero)) =
    tail_number (tail_h n) (1 - tail_b n) (3 * tail_c n % 4) ((tail_a n + 2 * tail_c n) % 8)
product_number n (suc (suc (suc zero))) =
    tail_number (tail_h n) (1 - tail_b n) ((3 * tail_c n + 2) % 4) ((tail_a n + 2 * tail_c n + 2) % 8)
product_number n (suc (suc (suc (suc zero)))) = tail_number (tail_h n) (tail_b n) ((tail_c n + 2) % 4) (tail_a n)
product_number n (suc (suc (suc (suc (suc l))))) = tail_number (tail_h n) (tail_b n) ((tail_c n + 1) % 4) (tail_a n)

all_products : Holds (every (6 * tails) (λ k. entry_test k (product_number (k / 6) (k % 6))))
unfolding every entry_test product_number H_products
all_products = tt

-- "Multiplying a tail on its right by one of the six letters other than T gives a tail"
pub product_is_tail : (n l : ℕ) → n < tails → l < length six_letters → (m : ℕ) × Product n (get_or six_letters l 0) m
product_is_tail n l n< l< =
    let m = product_number ((6 * n + l) / 6) ((6 * n + l) % 6) in
    (m, product_at n l m l< (every_at (6 * tails) (λ (k : ℕ). entry_test k (product_number (k / 6) (k % 6))) all_products (6 * n + l) (omega arith)))
