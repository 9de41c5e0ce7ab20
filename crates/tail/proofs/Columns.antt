-- Each letter other than T has a column of the table, and two remainders find it. Assumes nothing.
use mathlib.Core.Path.{◌≡◌, refl}
use mathlib.Core.Bool.{true}
use Prim.Native.Nat.{ℕ, ◌%◌}
use lib.Dec.{lit<}
use Rattle.matrix.specs.Letter.{T, is_letter}
use Rattle.matrix.proofs.Letter.{by_letter}
use Rattle.tail.specs.Product.{Column}

pub column_found : (b : ℕ) → is_letter b ≡ true → (b ≡ T → ⊥) → Column b (b % 86 % 6)
column_found b =
    by_letter (λ (k : ℕ). (k ≡ T → ⊥) → Column k (k % 86 % 6)) b
    (λ other. record { in_columns = lit< tt; stands = refl })
    (λ other. record { in_columns = lit< tt; stands = refl })
    (λ other. absurd (other refl))
    (λ other. record { in_columns = lit< tt; stands = refl })
    (λ other. record { in_columns = lit< tt; stands = refl })
    (λ other. record { in_columns = lit< tt; stands = refl })
    (λ other. record { in_columns = lit< tt; stands = refl })
