-- `tail::Tail::past_t` meets its contract: the rule for T that one test shows of all tails. Assumes nothing.
use Rattle.tail.proofs.Passing.{passed_T}
use Rattle.tail.proofs.Tail.past_t.Goals as goal

pub returns : goal.returns
returns c = rw c.xs-b.ensures (passed_T c.args.self.number c.args.self.in_tails)
