-- `ring::Element::turned` meets its contract: the change of sign fits, by the bound on the coefficient. Assumes nothing.
use Rattle.ring.specs.Element.{turned}
use Rattle.ring.proofs.Bounds.{negation_fits, negation_exact, kept, equal_coefficients}
use Rattle.ring.proofs.Element.turned.Goals as goal

pub overflow_sub-result : goal.overflow_sub-result
overflow_sub-result c = search negation_fits

pub returns : goal.returns
unfolding turned
returns c = search (negation_exact, kept, equal_coefficients)
