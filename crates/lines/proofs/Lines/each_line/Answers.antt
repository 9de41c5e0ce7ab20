-- Each line that comes is answered by one call.
use Rattle.std.proofs.Common.{rules, arith, refl, ◌-◌, ◌^◌, ◌≡◌, false}
use Rattle.std.proofs.lemmas.Result.{err_from_is_err_and}
use Rattle.lines.specs.Line.{Answers}
use Rattle.lines.proofs.Answering.{ended, turn_left}
use Rattle.lines.proofs.Lines.each_line.Goals as goal

pub returns-in_err-next_line-clause-answered : goal.returns-in_err-next_line-clause-answered
returns-in_err-next_line-clause-answered g c =
    let p = err_from_is_err_and c.from_residual.result c.from_residual.ensures.1 in
    rw (p.1, p.2) (c.loop.invariant _ (rw (turn_left _ c.loop-test.true) (Answers.failed c.in_err-next_line.ensures.line)))

pub returns-then-not-branch-clause-answered : goal.returns-then-not-branch-clause-answered
returns-then-not-branch-clause-answered g c =
    let none : c.in_ok-next_line.field-0 ≡ false = search rules in
    c.loop.invariant _ (rw (turn_left _ c.loop-test.true) (ended _ c.write_out.result (rw none at c.in_ok-next_line.ensures.line)))

pub loop-preserved : goal.loop-preserved
loop-preserved g c =
    λ result rest. c.loop.invariant result
    (rw (turn_left _ c.loop-test.true) (Answers.answered (rw c.if-not-branch.false at c.in_ok-next_line.ensures.line)
    (record { given = c.deref.result; shows = c.deref.ensures.0; before = _; stood = refl; after = _; stands = refl; called = c.answer.ensures }) rest))

pub returns-clause-answered : goal.returns-clause-answered
returns-clause-answered g c =
    let none : 2 ^ 64 - 1 - c.loop.counter ≡ 0 = omega arith in
    c.loop.invariant _ (rw none Answers.used_up)
