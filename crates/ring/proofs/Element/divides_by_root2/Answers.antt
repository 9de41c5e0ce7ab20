-- `ring::Element::divides_by_root2` meets its contract: √2 divides an element exactly when its pairs of coefficients agree
-- in parity. Assumes nothing.
use mathlib.Core.Path.{◌≡◌, refl, sym, ◌∙◌, ap}
use mathlib.Core.Bool.{Bool, true, false, beq, true≢false, false≢true}
use borrow.Author.Rules.{sfits_of}
use lib.IntN.{ℤ}
use mir.Syntax.{w64}
use mir.Val.{SFits}
use mir.Facts.{to_z-of_z}
use Rattle.algebra.specs.Parity.{odd}
use Rattle.ring.proofs.Bounds.{stored}
use Rattle.ring.proofs.Divided.{pairs_of_divided, divided_of_pairs}
use Rattle.ring.proofs.Element.divides_by_root2.Goals as goal

-- the test of two truth values
agree : (a b : Bool) → beq a b ≡ true → a ≡ b
agree true true e = refl
agree true false e = absurd (false≢true e)
agree false true e = absurd (false≢true e)
agree false false e = refl

agreed : (a b : Bool) → a ≡ b → beq a b ≡ true
agreed true true e = refl
agreed true false e = absurd (true≢false e)
agreed false true e = absurd (false≢true e)
agreed false false e = refl

-- the parity of a coefficient is read as it is
parity : {r : Bool} (z : ℤ) → SFits w64 z → r ≡ odd (stored z) → r ≡ odd z
parity z f e = e ∙ ap odd (to_z-of_z f)

pub returns-then-odd : goal.returns-then-odd
returns-then-odd c =
    let x = c.args.self in
    let outer_left = parity x.a0 (search sfits_of) c.odd.ensures in
    let outer_right = parity x.a2 (search sfits_of) c.odd-2.ensures in
    let left = parity x.a1 (search sfits_of) c.odd-then-odd.ensures in
    let right = parity x.a3 (search sfits_of) c.odd-then-odd-2.ensures in (
      λ e.
          divided_of_pairs (record {
            outer = sym outer_left ∙ agree _ _ c.if-odd.true ∙ outer_right;
            inner = sym left ∙ agree _ _ e ∙ right;
          }),
      λ d. agreed _ _ (left ∙ (pairs_of_divided d).inner ∙ sym right),
    )

pub returns-else-odd : goal.returns-else-odd
returns-else-odd c =
    let x = c.args.self in
    let outer_left = parity x.a0 (search sfits_of) c.odd.ensures in
    let outer_right = parity x.a2 (search sfits_of) c.odd-2.ensures in (
      λ e. absurd (true≢false (sym e ∙ c.if-odd.false)),
      λ d. agreed _ _ (outer_left ∙ (pairs_of_divided d).outer ∙ sym outer_right),
    )
