-- `ring::Element::halved` meets its contract: half of a double is exact. Assumes nothing.
use borrow.Author.Rules.{sfits_of}
use Rattle.ring.proofs.Halving.{half_fits, halves_doubled}
use Rattle.ring.proofs.Element.halved.Goals as goal

pub nonzero_div-result : goal.nonzero_div-result
nonzero_div-result c = search (half_fits, sfits_of)

pub nonzero_div-result-2 : goal.nonzero_div-result-2
nonzero_div-result-2 c = search (half_fits, sfits_of)

pub nonzero_div-result-3 : goal.nonzero_div-result-3
nonzero_div-result-3 c = search (half_fits, sfits_of)

pub nonzero_div-result-4 : goal.nonzero_div-result-4
nonzero_div-result-4 c = search (half_fits, sfits_of)

pub returns : goal.returns
returns c =
    let p = c.requires in
    halves_doubled p (search sfits_of) (search sfits_of) (search sfits_of) (search sfits_of)
