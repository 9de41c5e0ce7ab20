-- `alphabet::first_bad` meets its contract: its closure computes that a byte fails the letter test. Assumes nothing.
use borrow.Author.Rules.{rules}
use Rattle.std.proofs.lemmas.Iterator.{YieldsList-from_slice}
use Rattle.matrix.specs.Letter.{is_letter}
use Rattle.lists.proofs.Position.{finds_from_position}
use Rattle.alphabet.proofs.first_bad.Goals as goal

pub returns : goal.returns
returns c = finds_from_position is_letter _ _ _ c.position.ensures.ran (YieldsList-from_slice c.args.text.now cc) (λ x b q k. search rules)
