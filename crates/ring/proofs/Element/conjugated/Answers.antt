-- `ring::Element::conjugated` meets its contract: the changes of sign fit, by the bounds on the coefficients. Assumes nothing.
use Rattle.ring.specs.Element.{conjugate}
use Rattle.ring.proofs.Bounds.{negation_fits, negation_exact, kept, equal_coefficients}
use Rattle.ring.proofs.Element.conjugated.Goals as goal

pub overflow_sub-result : goal.overflow_sub-result
overflow_sub-result c = search negation_fits

pub overflow_sub-result-2 : goal.overflow_sub-result-2
overflow_sub-result-2 c = search negation_fits

pub overflow_sub-result-3 : goal.overflow_sub-result-3
overflow_sub-result-3 c = search negation_fits

pub returns : goal.returns
unfolding conjugate
returns c = search (negation_exact, kept, equal_coefficients)
