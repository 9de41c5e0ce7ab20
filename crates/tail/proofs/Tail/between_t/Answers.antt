-- `tail::Tail::between_t` meets its contract: the rule for T and T that one test shows of all tails of X, S and W. Assumes nothing.
use borrow.Author.Rules.{rules}
use Rattle.tail.proofs.Passing.{joined_T}
use Rattle.tail.proofs.Tail.between_t.Goals as goal

pub returns : goal.returns
returns c = rw c.xs-b.ensures (joined_T c.args.self.number (search rules))
