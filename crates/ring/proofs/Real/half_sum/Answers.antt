-- `ring::Real::half_sum` meets its contract: the sums fit, and a shift is half of a number. Assumes nothing.
use Rattle.ring.proofs.Bounds.{sum_fits}
use Rattle.ring.specs.Real.{half_sum}
use Rattle.ring.proofs.Halves.{half_sum_exact, equal_parts}
use Rattle.ring.proofs.Real.half_sum.Goals as goal

pub overflow_add-result : goal.overflow_add-result
overflow_add-result c = search sum_fits

pub overflow_add-result-2 : goal.overflow_add-result-2
overflow_add-result-2 c = search sum_fits

pub returns : goal.returns
unfolding half_sum
returns c = rw (← c.self.view_is, ← c.other.view_is) (search (half_sum_exact, equal_parts))
