-- `frame::first_bad_digit` meets its contract: its closure computes that a byte is no digit. Assumes nothing.
use Rattle.std.proofs.Common.{rules}
use Rattle.std.proofs.lemmas.Iterator.{YieldsList-from_slice}
use Rattle.lists.proofs.Position.{finds_from_position}
use Rattle.frame.specs.Digit.{is_digit}
use Rattle.frame.proofs.first_bad_digit.Goals as goal

pub returns : goal.returns
returns c = finds_from_position is_digit _ _ _ c.position.ensures.ran (YieldsList-from_slice c.args.text.now cc) (λ x b q k. search rules)
