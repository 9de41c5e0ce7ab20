-- `compare::relate` meets its contract: where the codes or the tails before their W's differ the forms agree for no phase; else the
-- tails differ by j W's. Assumes nothing.
use borrow.Author.Rules.{rules}
use native.Mathlib.Omega.{arith}
use mathlib.Core.Logic.{inl, inr}
use mathlib.Core.Bool.{true≢false}
use mathlib.Core.Path.{◌≡◌, sym, ◌∙◌}
use Rattle.compare.proofs.States.{equal_by_tests, apart_by_tests, unlike_by}
use Rattle.compare.proofs.relate.Goals as goal
use Rattle.compare.proofs.relate.Goals.{then-not-same_codes-via-then-not-same_codes, then-not-same_codes-via-else-not-same_codes+then-first-second}

pub returns-then-not-same_codes : goal.returns-then-not-same_codes
returns-then-not-same_codes g c =
    let unlike_when =
    unlike_by _ _ c.first.inside.codes.items c.second.inside.codes.items _ _ c.first.view_is c.second.view_is c.first.invariant
    c.first.inside.tail.in_tails c.second.invariant c.second.inside.tail.in_tails in
    let told = c.same_codes.ensures in
    elim c.then-not-same_codes.branch [
      | then-not-same_codes-via-then-not-same_codes w ↦
          unlike_when (inl (λ e. true≢false (sym (told.1 (c.deref.ensures.0 ∙ e ∙ sym c.deref-2.ensures.0)) ∙ w.if-not-same_codes.true)))
      | then-not-same_codes-via-else-not-same_codes+then-first-second w ↦ unlike_when (inr w.if-first-second.true)
    ]

pub returns-in-0 : goal.returns-in-0
returns-in-0 g c =
    let same : c.first.inside.codes.items ≡ c.second.inside.codes.items = search rules in
    equal_by_tests _ _ _ _ _ _ c.first.view_is c.second.view_is c.between.result same (omega (arith, c.if-first-second.false)) c.between.ensures.1 c.in-0.is

pub returns-in_default : goal.returns-in_default
returns-in_default g c =
    let same : c.first.inside.codes.items ≡ c.second.inside.codes.items = search rules in
    let some : c.between.result ≡ 0 → ⊥ = search rules in
    apart_by_tests _ _ _ _ _ _ c.first.view_is c.second.view_is c.between.result same (omega (arith, c.if-first-second.false)) c.between.ensures.1
    (omega arith) (omega (arith, c.between.ensures.0))
