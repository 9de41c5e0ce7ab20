-- Document 01, "The form": the products of a tail with a letter on its right. With one of the six letters other than T a
-- tail gives a tail, and all 1,152 products stand in one table; T moves to the left, or meets a T that stands there.
use Rattle.std.specs.Prelude.{ℕ, ◌+◌, ◌*◌, ◌<◌, List, [], ◌∷◌, ◌++◌, ◌≡◌, length, get_or}
use Rattle.matrix.specs.Matrix.{Same}
use Rattle.matrix.specs.Letter.{H, S, T, W, X, Y, Z, matrix_of}
use Rattle.form.specs.Tail.{tails, tail_h, head_text, tail_text}

-- "the six letters other than T", in the order of the table's columns
abbrev pub six_letters : List ℕ
six_letters = H ∷ W ∷ X ∷ Y ∷ Z ∷ S ∷ []

-- a letter stands in a column
pub record Column (letter l : ℕ) : Type 0 where
  pub in_columns : l < length six_letters
  pub stands : get_or six_letters l 0 ≡ letter

-- the tail m is the product of the tail n with a letter: "same matrix, phase included"
pub record Product (n letter m : ℕ) : Type 0 where
  pub in_tails : m < tails
  pub same : Same (matrix_of (tail_text m)) (matrix_of (tail_text n ++ letter ∷ []))

-- "the table of 1,152 products": six for each tail, in the order of the letters
pub record ProductTable (table : List ℕ) : Type 0 where
  pub product : (n l : ℕ) → n < tails → l < length six_letters → Product n (get_or six_letters l 0) (get_or table (6 * n + l) 0)

-- "XT = T X S ω⁻¹": the tail n followed by T is n's (nothing, H or SH), then T, then a tail m of X, S and W alone
pub record PastT (n m : ℕ) : Type 0 where
  pub headless : tail_h m ≡ 0
  pub same : Same (matrix_of (head_text (tail_h n) ++ T ∷ tail_text m)) (matrix_of (tail_text n ++ T ∷ []))

-- "TT = S": T, the tail n of X, S and W alone, and T again are a tail m of X, S and W alone
pub record BetweenT (n m : ℕ) : Type 0 where
  pub headless : tail_h m ≡ 0
  pub same : Same (matrix_of (tail_text m)) (matrix_of (T ∷ (tail_text n ++ T ∷ [])))
