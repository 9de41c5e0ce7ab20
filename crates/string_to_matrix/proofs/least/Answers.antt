-- `string_to_matrix::least` meets its contract. The loop's invariant: the record means the same. The measure is
-- the exponent. Assumes nothing.
use native.Mathlib.Omega.{arith}
use mathlib.Core.Path.{subst}
use Rattle.matrix.proofs.Same.{same_refl, same_trans}
use Rattle.string_to_matrix.specs.Room.{Reduces}
use Rattle.string_to_matrix.proofs.least.Goals as goal

pub loop-r-init : goal.loop-r-init
loop-r-init c = same_refl _

pub lowered-r-requires : goal.lowered-r-requires
lowered-r-requires c = subst (Reduces c.loop-r.r.matrix) c.loop-r-test.true c.reducible.ensures

pub loop-r-smaller : goal.loop-r-smaller
loop-r-smaller c = let lower = c.lowered-r.ensures.lower in omega arith

pub loop-r-preserved : goal.loop-r-preserved
loop-r-preserved c = same_trans c.loop-r.invariant c.lowered-r.ensures.same

pub returns : goal.returns
returns c =
    record {
      same = c.loop-r.invariant;
      least = subst (Reduces c.loop-r.r.matrix) c.loop-r-test.false c.reducible.ensures;
    }
