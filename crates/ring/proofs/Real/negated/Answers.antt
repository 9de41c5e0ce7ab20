-- `ring::Real::negated` meets its contract: the changes of sign fit. Assumes nothing.
use Rattle.ring.proofs.Bounds.{negation_fits, negation_exact}
use Rattle.ring.specs.Real.{negated}
use Rattle.ring.proofs.Halves.{equal_parts}
use Rattle.ring.proofs.Real.negated.Goals as goal

pub overflow_sub-result : goal.overflow_sub-result
overflow_sub-result c = search negation_fits

pub overflow_sub-result-2 : goal.overflow_sub-result-2
overflow_sub-result-2 c = search negation_fits

pub returns : goal.returns
unfolding negated
returns c = rw (← c.self.view_is) (search (negation_exact, equal_parts))
