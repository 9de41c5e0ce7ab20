-- `accepted_to_form::Descent::put_run` meets its contract. The loop's invariant: as many letters are written as turns are done.
-- Assumes nothing.
use Rattle.std.proofs.Common.{◌≡◌, ◌++◌, replicate}
use Rattle.accepted_to_form.proofs.Descent.put_run.Given as goal

abbrev pub invariant-loop : goal.invariant-loop
invariant-loop l = l.self.letters.items ≡ l.initial.self.letters.items ++ replicate l.counter l.letter
