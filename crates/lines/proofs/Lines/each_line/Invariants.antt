-- As the lines are answered from here on in the turns that are left, so they are from the start.
use Rattle.std.specs.Prelude.{Result, ◌-◌, ◌^◌}
use Rattle.std.specs.declared.io.Error.{Error}
use Rattle.lines.specs.Calls.{CalledAtLine}
use Rattle.lines.specs.Line.{Answers}
use Rattle.lines.proofs.Lines.each_line.Given as goal

abbrev pub invariant-loop : goal.invariant-loop
invariant-loop g l =
    (result : Result (Unit {0}) Error) →
    Answers g.row.N 65536 l.room (CalledAtLine g.F.FnMut) (2 ^ 64 - 1 - l.counter) l.self.input l.self.output.items l.answer result →
    Answers g.row.N 65536 l.room (CalledAtLine g.F.FnMut) (2 ^ 64 - 1) l.fn.self.input l.fn.self.output.items l.fn.answer result
