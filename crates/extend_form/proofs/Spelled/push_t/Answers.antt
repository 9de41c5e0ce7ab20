-- `extend_form::Spelled::push_t` meets its contract: the tail's head and T are the last code then. Assumes nothing.
use Rattle.extend_form.proofs.Kept.{kept_pushed}
use Rattle.extend_form.proofs.Spelled.push_t.Goals as goal

pub returns : goal.returns
returns g c =
    kept_pushed _ _ _ _ _ _ c.self.view_is c.push.ensures.items c.head.ensures c.requires.codes c.past_t-self-inside.ensures
