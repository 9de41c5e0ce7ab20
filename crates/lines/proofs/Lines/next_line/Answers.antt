-- The line comes turn by turn, once there is room.
use Rattle.std.proofs.Common.{rules, arith, ◌≡◌, ◌≤◌, length, false}
use Rattle.std.proofs.lemmas.Result.{err_from_is_err_and}
use Rattle.lines.specs.Line.{Turns, Comes}
use Rattle.lines.proofs.Taken.{used_within}
use Rattle.lines.proofs.Lines.next_line.Goals as goal

pub returns-in_err-make_room-clause-line : goal.returns-in_err-make_room-clause-line
returns-in_err-make_room-clause-line g c =
    let p = err_from_is_err_and c.from_residual.result c.from_residual.ensures.1 in
    rw (p.1, c.make_room.ensures.input) (Comes.no_room c.in_err-make_room.ensures.full)

pub loop-init : goal.loop-init
loop-init g c = record {
  room = search rules;
  turns = λ answer line rest left t.
      Comes.turns c.in_ok-make_room.ensures.made (rw (c.clear.ensures, c.make_room.ensures.input) at t);
  failed = λ none. absurd (omega arith);
}

pub take-requires : goal.take-requires
take-requires g c =
    let within : c.in-Some.used ≤ length c.loop.self.input.part = rw c.rest.ensures at (used_within c.in-Some.ensures) in omega arith

pub returns-in-Some-clause-line : goal.returns-in-Some-clause-line
returns-in-Some-clause-line g c =
    rw c.take.ensures (c.loop.invariant.turns _ _ _ _ (Turns.line_ends (rw c.rest.ensures at c.in-Some.ensures)))

pub returns-in_err-read_on-clause-line : goal.returns-in_err-read_on-clause-line
returns-in_err-read_on-clause-line g c =
    let p = err_from_is_err_and c.from_residual-in_err-read_on.result c.from_residual-in_err-read_on.ensures.1 in
    rw p.1 (c.loop.invariant.turns _ _ _ _ (Turns.failed (rw c.rest.ensures at c.in_default.ensures)))

pub returns-then-not-branch-clause-line : goal.returns-then-not-branch-clause-line
returns-then-not-branch-clause-line g c =
    let none : c.in_ok-read_on.field-0 ≡ false = search rules in
    rw (c.is_line.ensures, c.deref.ensures.0, c.read_on.ensures.line, c.in_ok-read_on.ensures.written)
    (c.loop.invariant.turns _ _ _ _
    (Turns.ended (rw c.rest.ensures at c.in_default.ensures) (rw none at c.in_ok-read_on.ensures.read)))

pub loop-preserved : goal.loop-preserved
loop-preserved g c =
    let on = rw c.rest.ensures at c.in_default.ensures in
    record {
      room = search rules;
      turns = λ answer line rest left t.
          c.loop.invariant.turns answer line rest left
          (Turns.goes_on on (rw c.if-not-branch.false at c.in_ok-read_on.ensures.read)
          (rw (c.read_on.ensures.line, c.in_ok-read_on.ensures.written) at t));
      failed = λ _ error line rest left. c.loop.invariant.turns _ line rest left (Turns.failed on);
    }

pub returns-clause-line : goal.returns-clause-line
returns-clause-line g c = c.loop.invariant.failed (omega arith) _ _ _ _
