-- The decimal digits of a number are what std writes of it. Assumes nothing.
use Prim.{yes, no}
use Prim.Native.Nat.{ℕ, zero, suc, ◌/◌, ◌%◌, ◌^◌, ◌≤◌, ◌<◌}
use native.Mathlib.Decide.{dec_le}
use native.Mathlib.Omega.{arith}
use mathlib.Core.List.{List, [], ◌∷◌, ◌++◌}
use mathlib.Core.Path.{◌≡◌, ap, ◌∙◌}
use Rattle.std.specs.Fmt.{decimal as written}
use Rattle.std.proofs.lemmas.Fmt.{decimal_digit, decimal_step}
use borrow.Author.Tests.{lt-ltb, le-ltb}
use Rattle.report.specs.Decimal.{digit, digits_of, decimal}

digits_are : (more n : ℕ) → n ≤ more → n < 2 ^ 64 → written n ≡ digits_of more n
unfolding digits_of digit
digits_are zero n within small = decimal_digit n (omega arith)
digits_are (suc more) n within small =
    elim (dec_le 10 n) [
      | yes h ↦
          let front : written (n / 10) ≡ digits_of more (n / 10) = digits_are more (n / 10) (omega arith) (omega arith) in
          simp (le-ltb n 10 h) (decimal_step n h small ∙ ap (λ (s : List ℕ). s ++ (digit (n % 10) ∷ [])) front)
      | no h ↦ simp (lt-ltb n 10 (omega arith)) (decimal_digit n (omega arith))
    ]

pub written_decimal : (n : ℕ) → n < 2 ^ 64 → written n ≡ decimal n
unfolding decimal
written_decimal n small = digits_are n n (omega arith) small
