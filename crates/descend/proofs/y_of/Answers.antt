-- `descend::y_of` meets its contract: the sums fit, and leave room. Assumes nothing.
use Rattle.ring.proofs.Bounds.{sum_fits, sum_exact}
use Rattle.ring.proofs.Halves.{equal_parts}
use Rattle.descend.proofs.Products.{roomy, roomy_y}
use Rattle.descend.proofs.y_of.Goals as goal

pub overflow_add-result : goal.overflow_add-result
overflow_add-result c = let p = roomy c.requires in sum_fits p.a2 p.a2

pub overflow_add-result-2 : goal.overflow_add-result-2
overflow_add-result-2 c = let p = roomy c.requires in sum_fits p.a1 p.a3

pub invariant_of-result : goal.invariant_of-result
invariant_of-result c = roomy_y c.requires

pub returns : goal.returns
returns c = let p = roomy c.requires in equal_parts (sum_exact p.a2 p.a2) (sum_exact p.a1 p.a3)
