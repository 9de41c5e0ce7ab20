-- `accepted_to_form::Descent::put_letters` meets its contract. The loop's invariant: the record is under way, a step down for each turn.
-- Assumes nothing.
use Rattle.std.proofs.Common.{◌*◌, ◌-◌}
use Rattle.accepted_to_form.proofs.Spelt.{UnderWay}
use Rattle.accepted_to_form.proofs.Descent.put_letters.Given as goal

abbrev pub invariant-loop : goal.invariant-loop
invariant-loop l = UnderWay l.fn.«record» (2 * l.fn.«record».exponent - l.counter) l.rest l.self.letters.items
