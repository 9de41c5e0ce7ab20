-- `turn::record_without_h` meets its contract: sums and changes of sign have room. Assumes nothing.
use mathlib.Core.Path.{refl}
use borrow.Author.Rules.{rules}
use Rattle.ring.proofs.Bounds.{small_negated}
use Rattle.matrix.proofs.Entries.{equal_entries}
use Rattle.complete.specs.Descent.{record_without_H}
use Rattle.turn.proofs.Room.{sum_of_negation}
use Rattle.turn.proofs.record_without_h.Goals as goal

pub plus-requires-3 : goal.plus-requires-3
plus-requires-3 c = search (small_negated, rules)

pub plus-requires-4 : goal.plus-requires-4
plus-requires-4 c = search (small_negated, rules)

pub returns : goal.returns
unfolding record_without_H
returns c =
    let m = c.args.m in
    equal_entries refl c.plus.ensures c.plus-2.ensures
    (sum_of_negation m.top.left m.bottom.left c.negated.ensures c.plus-3.ensures)
    (sum_of_negation m.top.right m.bottom.right c.negated-2.ensures c.plus-4.ensures)
