-- `accept_record::judge` meets its contract. Assumes nothing.
use Rattle.std.proofs.Common.{sym, ◌∙◌, arith}
use mathlib.Core.Bool.{true≢false}
use Rattle.accept_record.specs.Accept.{wide_coefficient, not_unitary}
use Rattle.accept_record.proofs.judge.Goals as goal

pub returns-in-Some : goal.returns-in-Some
returns-in-Some c = let wide = rw c.coefficients.ensures at c.in-Some.ensures in wide_coefficient (omega arith) wide

pub returns-then-not-is_unitary : goal.returns-then-not-is_unitary
returns-then-not-is_unitary c =
    let within = rw c.coefficients.ensures at c.in_default.ensures in
    not_unitary
    (record { exponent = omega arith; coefficients = within })
    (λ u. true≢false (sym (c.is_unitary.ensures.1 u) ∙ c.if-not-is_unitary.true))
