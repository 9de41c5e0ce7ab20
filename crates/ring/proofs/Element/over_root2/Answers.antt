-- `ring::Element::over_root2` meets its contract: √2 times √2 times the quotient is its double, and √2 cancels.
-- Assumes nothing.
use mathlib.Core.Path.{◌≡◌, sym, ◌∙◌, ap}
use Rattle.ring.specs.Element.{root2, product}
use Rattle.ring.proofs.Bounds.{fixed, fixed_factor}
use Rattle.ring.proofs.Root2.{root2_twice, root2_cancel}
use Rattle.ring.proofs.Element.over_root2.Goals as goal

pub times-requires : goal.times-requires
times-requires c = fixed_factor (fixed (tt, tt, tt, tt)) c.requires.small

pub halved-requires : goal.halved-requires
unfolding root2
halved-requires c =
    let product_is : c.times.result ≡ product root2 c.args.self = c.times.ensures in
    let d = c.requires.root2_divides in
    record {
      half = d.quotient;
      doubled = sym (root2_twice d.quotient) ∙ ap (product root2) d.multiplied ∙ sym product_is;
    }

pub returns : goal.returns
unfolding root2
returns c =
    let product_is : c.times.result ≡ product root2 c.args.self = c.times.ensures in
    root2_cancel (product root2 c.halved.result) c.args.self
    (root2_twice c.halved.result ∙ c.halved.ensures ∙ product_is)
