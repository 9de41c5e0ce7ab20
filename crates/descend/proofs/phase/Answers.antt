-- `descend::phase` meets its contract. Assumes nothing.
use mathlib.Core.Path.{◌≡◌}
use Prim.Native.Nat.{ℕ}
use borrow.Author.Rules.{sfits_of}
use mir.Syntax.{w64}
use mir.Val.{SFits}
use mir.Facts.{to_z-of_z}
use Rattle.ring.specs.declared.Element.{Element}
use Rattle.ring.proofs.Bounds.{stored}
use Rattle.complete.specs.Descent.{by_sign, phase}
use Rattle.descend.proofs.phase.Goals as goal

-- the signs read one after the other
phased : (x : Element) {p1 p2 p3 p4 p5 p6 p7 p8 : ℕ} →
    stored x.a0 ≡ x.a0 → stored x.a1 ≡ x.a1 → stored x.a2 ≡ x.a2 → stored x.a3 ≡ x.a3 →
    p1 ≡ by_sign (stored x.a3) 2 0 1 → p2 ≡ by_sign (stored x.a3) 4 6 5 → p3 ≡ by_sign (stored x.a3) 3 7 0 →
    p4 ≡ by_sign (stored x.a1) p1 p2 p3 → p5 ≡ by_sign (stored x.a2) 1 7 0 → p6 ≡ by_sign (stored x.a2) 3 5 4 →
    p7 ≡ by_sign (stored x.a2) 2 6 p4 → p8 ≡ by_sign (stored x.a0) p5 p6 p7 → p8 ≡ phase x
unfolding phase
phased x k0 k1 k2 k3 e1 e2 e3 e4 e5 e6 e7 e8 = cc

pub returns : goal.returns
returns c =
    let fits0 : SFits w64 c.args.x.a0 = search sfits_of in
    let fits1 : SFits w64 c.args.x.a1 = search sfits_of in
    let fits2 : SFits w64 c.args.x.a2 = search sfits_of in
    let fits3 : SFits w64 c.args.x.a3 = search sfits_of in
    let x = c.args.x in
    phased x (to_z-of_z fits0) (to_z-of_z fits1) (to_z-of_z fits2) (to_z-of_z fits3)
    c.by_sign-above.ensures c.by_sign-below.ensures c.by_sign.ensures c.by_sign-sides.ensures
    c.by_sign-right.ensures c.by_sign-left.ensures c.by_sign-2.ensures c.by_sign-3.ensures
