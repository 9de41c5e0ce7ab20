-- `ring::Real::over_root2` meets its contract: a shift is half of a number. Assumes nothing.
use borrow.Author.Rules.{sfits_of}
use mir.Facts.{to_z-of_z}
use Rattle.ring.specs.Real.{over_root2}
use Rattle.ring.proofs.Halves.{half_exact, equal_parts}
use Rattle.ring.proofs.Real.over_root2.Goals as goal

pub returns : goal.returns
unfolding over_root2
returns c = rw (← c.self.view_is) (search (to_z-of_z, half_exact, sfits_of, equal_parts))
