-- `turn::turned_back` meets its contract: the change of sign fits. Assumes nothing.
use Rattle.ring.proofs.Bounds.{negation_fits, negation_exact, kept, equal_coefficients}
use Rattle.complete.specs.Descent.{turned_back}
use Rattle.turn.proofs.turned_back.Goals as goal

pub overflow_sub-result : goal.overflow_sub-result
overflow_sub-result c = search negation_fits

pub returns : goal.returns
unfolding turned_back
returns c = search (negation_exact, kept, equal_coefficients)
