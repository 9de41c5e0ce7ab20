-- `descend::x_of` meets its contract: the sum and the difference fit, and leave room. Assumes nothing.
use Rattle.ring.proofs.Bounds.{sum_fits, sum_exact}
use Rattle.ring.proofs.Halves.{difference_fits, difference_exact, equal_parts}
use Rattle.descend.proofs.Products.{roomy, roomy_x}
use Rattle.descend.proofs.x_of.Goals as goal

pub overflow_add-result : goal.overflow_add-result
overflow_add-result c = let p = roomy c.requires in sum_fits p.a0 p.a0

pub overflow_sub-result : goal.overflow_sub-result
overflow_sub-result c = let p = roomy c.requires in difference_fits p.a1 p.a3

pub invariant_of-result : goal.invariant_of-result
invariant_of-result c = roomy_x c.requires

pub returns : goal.returns
returns c = let p = roomy c.requires in equal_parts (sum_exact p.a0 p.a0) (difference_exact p.a1 p.a3)
