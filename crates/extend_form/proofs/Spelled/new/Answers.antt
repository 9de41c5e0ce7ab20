-- `extend_form::Spelled::new` meets its contract: no code is kept. Assumes nothing.
use Rattle.extend_form.specs.Spelling.{no_codes}
use Rattle.extend_form.proofs.Spelled.new.Goals as goal

pub invariant_of-result-2 : goal.invariant_of-result-2
invariant_of-result-2 g c = rw c.new.ensures no_codes
