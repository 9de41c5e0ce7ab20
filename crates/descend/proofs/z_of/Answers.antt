-- `descend::z_of` meets its contract: the products have room, and an element times its conjugate is its squared size.
-- Assumes nothing.
use Prim.Native.Nat.{◌^◌}
use lib.Dec.{lit≤}
use Rattle.ring.specs.Bounds.{Small}
use Rattle.ring.proofs.Bounds.{small_more, small_negated, numeral_room, conjugate_factor, small_conjugate_product}
use Rattle.descend.proofs.Products.{roomy, roomy_z, small_difference, sizes}
use Rattle.descend.proofs.z_of.Goals as goal

pub times-up-requires : goal.times-up-requires
times-up-requires c = conjugate_factor (numeral_room (tt, tt, tt)) c.requires.small c.requires.small c.conjugated.ensures

pub times-down-requires : goal.times-down-requires
times-down-requires c = conjugate_factor (numeral_room (tt, tt, tt)) c.requires.small_2 c.requires.small_2 c.conjugated-2.ensures

pub negated-requires : goal.negated-requires
negated-requires c =
    let down : Small (2 ^ 60) c.times-down.result = small_more (lit≤ tt) (small_conjugate_product c.requires.small_2 c.requires.small_2 c.conjugated-2.ensures c.times-down.ensures) in
    roomy down

pub plus-z-requires : goal.plus-z-requires
plus-z-requires c =
    let up : Small (2 ^ 60) c.times-up.result = small_more (lit≤ tt) (small_conjugate_product c.requires.small c.requires.small c.conjugated.ensures c.times-up.ensures) in
    let down : Small (2 ^ 60) c.times-down.result = small_more (lit≤ tt) (small_conjugate_product c.requires.small_2 c.requires.small_2 c.conjugated-2.ensures c.times-down.ensures) in
    record { small = roomy up; small_2 = small_negated c.negated.ensures (roomy down) }

pub invariant_of-result : goal.invariant_of-result
invariant_of-result c =
    let up : Small (2 ^ 60) c.times-up.result = small_more (lit≤ tt) (small_conjugate_product c.requires.small c.requires.small c.conjugated.ensures c.times-up.ensures) in
    let down : Small (2 ^ 60) c.times-down.result = small_more (lit≤ tt) (small_conjugate_product c.requires.small_2 c.requires.small_2 c.conjugated-2.ensures c.times-down.ensures) in
    roomy_z (small_difference up down c.negated.ensures c.plus-z.ensures)

pub returns : goal.returns
returns c =
    let up : Small (2 ^ 60) c.times-up.result = small_more (lit≤ tt) (small_conjugate_product c.requires.small c.requires.small c.conjugated.ensures c.times-up.ensures) in
    let down : Small (2 ^ 60) c.times-down.result = small_more (lit≤ tt) (small_conjugate_product c.requires.small_2 c.requires.small_2 c.conjugated-2.ensures c.times-down.ensures) in
    sizes c.args.u c.args.t up down c.conjugated.ensures c.times-up.ensures c.conjugated-2.ensures
    c.times-down.ensures c.negated.ensures c.plus-z.ensures
