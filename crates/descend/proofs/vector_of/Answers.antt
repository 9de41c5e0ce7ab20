-- `descend::vector_of` meets its contract: the product of the column's entries has room. Assumes nothing.
use mathlib.Core.Path.{◌∙◌, ap}
use Prim.Native.Nat.{◌^◌}
use lib.Dec.{lit≤}
use lib.IntN.{◌+ℤ◌, ◌-ℤ◌}
use Rattle.ring.specs.declared.Element.{Element}
use Rattle.ring.specs.Element.{product}
use Rattle.ring.specs.Bounds.{Small}
use Rattle.ring.proofs.Bounds.{small_more, numeral_room, conjugate_factor, small_conjugate_product}
use Rattle.ring.specs.Real.{number, vector}
use Rattle.complete.specs.Vector.{vector_of}
use Rattle.descend.proofs.vector_of.Goals as goal

pub times-p-requires : goal.times-p-requires
times-p-requires c = conjugate_factor (numeral_room (tt, tt, tt)) c.requires.small_2 c.requires.small c.conjugated.ensures

pub x_of-requires : goal.x_of-requires
x_of-requires c =
    let column_product : Small (2 ^ 60) c.times-p.result = small_more (lit≤ tt) (small_conjugate_product c.requires.small_2 c.requires.small c.conjugated.ensures c.times-p.ensures) in
    column_product

pub y_of-requires : goal.y_of-requires
y_of-requires c =
    let column_product : Small (2 ^ 60) c.times-p.result = small_more (lit≤ tt) (small_conjugate_product c.requires.small_2 c.requires.small c.conjugated.ensures c.times-p.ensures) in
    column_product

pub returns : goal.returns
unfolding vector_of
returns c =
    let t = c.args.m.bottom.left in
    let is = c.times-p.ensures ∙ ap (product t) c.conjugated.ensures in
    let x = c.x_of.ensures ∙ ap (λ (p : Element). number (p.a0 +ℤ p.a0) (p.a1 -ℤ p.a3)) is in
    let y = c.y_of.ensures ∙ ap (λ (p : Element). number (p.a2 +ℤ p.a2) (p.a1 +ℤ p.a3)) is in
    λ i. vector (x i) (y i) (c.z_of.ensures i)
