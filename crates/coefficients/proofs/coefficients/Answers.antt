-- `coefficients::coefficients` meets its contract: each number is read as it is. Assumes nothing.
use mathlib.Core.Path.{◌≡◌}
use borrow.Author.Rules.{sfits_of}
use mir.Syntax.{w64}
use mir.Val.{SFits}
use mir.Facts.{to_z-of_z}
use Rattle.ring.specs.declared.Element.{Element}
use Rattle.ring.specs.Element.{element}
use Rattle.ring.proofs.Bounds.{stored, equal_coefficients}
use Rattle.matrix.specs.Matrix.{matrix}
use Rattle.coefficients.specs.Coefficients.{coefficients}
use Rattle.coefficients.proofs.coefficients.Goals as goal

read : (x : Element) → SFits w64 x.a0 → SFits w64 x.a1 → SFits w64 x.a2 → SFits w64 x.a3 →
    element (stored x.a0) (stored x.a1) (stored x.a2) (stored x.a3) ≡ x
read x f0 f1 f2 f3 = equal_coefficients (to_z-of_z f0) (to_z-of_z f1) (to_z-of_z f2) (to_z-of_z f3)

pub returns : goal.returns
unfolding coefficients
returns c =
    let m = c.args.m in
    let a = read m.top.left (search sfits_of) (search sfits_of) (search sfits_of) (search sfits_of) in
    let b = read m.top.right (search sfits_of) (search sfits_of) (search sfits_of) (search sfits_of) in
    let d = read m.bottom.left (search sfits_of) (search sfits_of) (search sfits_of) (search sfits_of) in
    let e = read m.bottom.right (search sfits_of) (search sfits_of) (search sfits_of) (search sfits_of) in
    λ i. coefficients (matrix 0 (a i) (b i) (d i) (e i))
