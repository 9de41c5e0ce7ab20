-- `ring::odd` meets its contract. Assumes nothing.
use Rattle.ring.proofs.Halving.{half_fits, odd_exact}
use Rattle.ring.proofs.odd.Goals as goal

pub nonzero_rem-result : goal.nonzero_rem-result
nonzero_rem-result c = half_fits c.ranges.n

pub returns : goal.returns
returns c = odd_exact c.ranges.n
