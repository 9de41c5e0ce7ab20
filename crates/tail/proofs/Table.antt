-- The rule of the table of products, and of any other: a test that antt computes over all entries, one after the other,
-- holds at each of them. Assumes nothing.
use mathlib.Core.Path.{◌≡◌, ◌∙◌, subst, subst₂, sym}
use mathlib.Core.Bool.{Bool, true, ◌&&◌}
use mathlib.Core.List.{List, [], ◌∷◌, ◌++◌}
use Prim.Native.Nat.{ℕ, zero, suc, ◌+◌, ◌*◌, ◌/◌, ◌%◌, ◌<◌}
use native.Mathlib.Nat.{add-zero, zero-add, add-suc, suc-add, le_of_suc-le-suc, not-suc-le-zero}
use native.Mathlib.Omega.{arith}
use lib.Dec.{T as Holds, ltb, ltb→lt}
use lib.ListN.{length, get_or}
use Rattle.form.specs.Tail.{tails, head_text, tail_text}
use Rattle.tail.specs.Product.{six_letters, Product, ProductTable}
use Rattle.matrix.proofs.Test.{both}
use Rattle.tail.proofs.Test.{texts_test, texts_same}

-- the test f passes at each entry of the list and its place, counted from i
unfoldable pub every : (ℕ → ℕ → Bool) → ℕ → List ℕ → Bool
every f i [] = true
every f i (x ∷ xs) = f i x && every f (suc i) xs

from : (f : ℕ → ℕ → Bool) (xs : List ℕ) (i : ℕ) → Holds (every f i xs) → (k : ℕ) → k < length xs → Holds (f (i + k) (get_or xs k 0))
unfolding every
from f [] i t k h = absurd (not-suc-le-zero h)
from f (x ∷ xs) i t zero h = subst (λ (m : ℕ). Holds (f m x)) (sym (add-zero i)) (both (f i x) (every f (suc i) xs) t).0
from f (x ∷ xs) i t (suc k) h =
    subst (λ (m : ℕ). Holds (f m (get_or xs k 0))) (suc-add i k ∙ sym (add-suc i k))
    (from f xs (suc i) (both (f i x) (every f (suc i) xs) t).1 k (le_of_suc-le-suc h))

at : (f : ℕ → ℕ → Bool) (xs : List ℕ) → Holds (every f 0 xs) → (k : ℕ) → k < length xs → Holds (f k (get_or xs k 0))
at f xs t k h = subst (λ (m : ℕ). Holds (f m (get_or xs k 0))) (zero-add k) (from f xs 0 t k h)

-- m is the product of the tail n with the letter of column l
product_test : ℕ → ℕ → ℕ → Bool
unfolding texts_test tail_text head_text
product_test n l m = ltb m tails && texts_test (tail_text m) (tail_text n ++ get_or six_letters l 0 ∷ [])

product_by_test : (n l m : ℕ) → Holds (product_test n l m) → Product n (get_or six_letters l 0) m
unfolding product_test
product_by_test n l m h =
    let parts = both (ltb m tails) (texts_test (tail_text m) (tail_text n ++ get_or six_letters l 0 ∷ [])) h in
    record {
      in_tails = ltb→lt m tails parts.0;
      same = texts_same (tail_text m) (tail_text n ++ get_or six_letters l 0 ∷ []) parts.1;
    }

-- the entry at k is that of tail k / 6 and column k % 6
unfoldable pub entry_test : ℕ → ℕ → Bool
unfolding product_test
entry_test k m = product_test (k / 6) (k % 6) m

-- an entry that passes the test, at its tail and its column
pub product_at : (n l m : ℕ) → l < length six_letters → Holds (entry_test (6 * n + l) m) → Product n (get_or six_letters l 0) m
unfolding entry_test
product_at n l m l< h =
    let row : (6 * n + l) / 6 ≡ n = omega arith in
    let column : (6 * n + l) % 6 ≡ l = omega arith in
    product_by_test n l m (subst₂ (λ (i j : ℕ). Holds (product_test i j m)) row column h)

-- "its rule (same matrix, phase included) is shown once over all of it"
pub table_by_test : (table : List ℕ) → length table ≡ 6 * tails → Holds (every entry_test 0 table) → ProductTable table
table_by_test table size h =
    record {
      product = λ n l n< l<.
          product_at n l (get_or table (6 * n + l) 0) l< (at entry_test table h (6 * n + l) (omega arith));
    }
