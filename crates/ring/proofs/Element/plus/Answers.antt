-- `ring::Element::plus` meets its contract: the sums fit, by the bounds on the coefficients. Assumes nothing.
use Rattle.ring.specs.Element.{sum}
use Rattle.ring.proofs.Bounds.{sum_fits, sum_exact, equal_coefficients}
use Rattle.ring.proofs.Element.plus.Goals as goal

pub overflow_add-result : goal.overflow_add-result
overflow_add-result c = search sum_fits

pub overflow_add-result-2 : goal.overflow_add-result-2
overflow_add-result-2 c = search sum_fits

pub overflow_add-result-3 : goal.overflow_add-result-3
overflow_add-result-3 c = search sum_fits

pub overflow_add-result-4 : goal.overflow_add-result-4
overflow_add-result-4 c = let p = c.requires in search (p, sum_fits)

pub returns : goal.returns
unfolding sum
returns c = let p = c.requires in search (p, sum_exact, equal_coefficients)
