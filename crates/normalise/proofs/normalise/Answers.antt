-- `normalise::normalise` meets its contract: the refusals in their order, and else the form that the letters make. Assumes nothing.
use borrow.Author.Rules.{rules}
use Rattle.normalise.proofs.Held.{normalised}
use Rattle.normalise.proofs.normalise.Goals as goal

pub returns : goal.returns
returns g c =
    normalised _ _ _ c.clear.ensures (search rules) (λ place refusal names. search rules) _ _ c.by_text.ensures c.map_err.ensures.cases
