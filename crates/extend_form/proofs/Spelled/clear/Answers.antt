-- `extend_form::Spelled::clear` meets its contract: no code is kept. Assumes nothing.
use Rattle.extend_form.specs.Spelling.{no_codes}
use Rattle.extend_form.proofs.Spelled.clear.Goals as goal

pub invariant_of-self-2 : goal.invariant_of-self-2
invariant_of-self-2 g c = rw c.clear.ensures no_codes
