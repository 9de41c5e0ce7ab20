-- `accept_record::first_wide` meets its contract: its closure computes that a coefficient fails the test. Assumes nothing.
use borrow.Author.Rules.{rules}
use Rattle.std.proofs.lemmas.Iterator.{YieldsList-from_slice}
use Rattle.lists.proofs.Position.{finds_from_position}
use Rattle.accept_record.specs.Accept.{in_limit}
use Rattle.accept_record.proofs.first_wide.Goals as goal

pub returns : goal.returns
returns c = finds_from_position in_limit _ _ _ c.position.ensures.ran (YieldsList-from_slice c.args.list.now cc) (λ x b q k. search rules)
