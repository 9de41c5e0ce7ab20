-- `extend_form::Spelled::join_t` meets its contract: T and the last code's T are S, so that code's head begins the tail. Assumes nothing.
use Rattle.extend_form.proofs.Kept.{kept_last, kept_joined}
use Rattle.extend_form.proofs.Spelled.join_t.Goals as goal

pub invariant_of-self : goal.invariant_of-self
invariant_of-self g c = (kept_last _ _ _ _ c.pop.ensures.items c.unwrap-code.ensures c.self.invariant).1

pub returns : goal.returns
returns g c =
    kept_joined _ _ _ _ c.pop.ensures.items c.unwrap-code.ensures c.self.invariant _ _ _ _ c.self.view_is c.between_t-joined.ensures
    c.behind-self-inside.ensures
