-- `extend_form::Spelled::by_letter` meets its contract: T has a method of its own, and any other letter multiplies the tail. Assumes nothing.
use Rattle.extend_form.proofs.Kept.{kept_multiplied}
use Rattle.extend_form.proofs.Spelled.by_letter.Goals as goal

pub returns-else-letter-eq84 : goal.returns-else-letter-eq84
returns-else-letter-eq84 g c =
    kept_multiplied _ c.self.inside.codes.items _ _ _ c.self.view_is c.self.invariant c.product-self-inside.ensures
