-- `ring::Element::multiple` meets its contract: the products fit, by the bounds on the factors. Assumes nothing.
use Rattle.ring.specs.Element.{multiple}
use Rattle.ring.proofs.Bounds.{product_fits, product_exact, equal_coefficients}
use Rattle.ring.proofs.Element.multiple.Goals as goal

pub overflow_mul-result : goal.overflow_mul-result
overflow_mul-result c = search product_fits

pub overflow_mul-result-2 : goal.overflow_mul-result-2
overflow_mul-result-2 c = search product_fits

pub overflow_mul-result-3 : goal.overflow_mul-result-3
overflow_mul-result-3 c = search product_fits

pub overflow_mul-result-4 : goal.overflow_mul-result-4
overflow_mul-result-4 c = search product_fits

pub returns : goal.returns
unfolding multiple
returns c = search (product_exact, equal_coefficients)
