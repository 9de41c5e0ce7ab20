-- A number of Z[√2] as a ring element is a + b√2 as the entries of rotation matrices have it, and its parity is that of a.
-- Assumes nothing.
use mathlib.Core.Path.{◌≡◌, ap, sym, ◌∙◌}
use mathlib.Core.List.{[], ◌∷◌}
use lib.IntN.{ℤ, pos}
use Rattle.algebra.specs.Parity.{odd}
use Rattle.algebra.proofs.Whole.{whole}
use Rattle.algebra.proofs.Solver.{var, con, ◌⊕◌, ⊖◌, solve}
use Rattle.ring.specs.declared.Element.{Element}
use Rattle.ring.specs.Element.{one, root2, sum, multiple}
use Rattle.ring.proofs.Formal.{◌+ᶠ◌, multipleᶠ, wholeᶠ, root2ᶠ, realᶠ, coefficientwise}
use Rattle.ring.specs.Number.{Number}
use Rattle.rotation.specs.Rotation.{surd}
use Rattle.ring.specs.Real.{number, real}
use Rattle.rotation.proofs.Parity.{odd_element}

pub real_is_surd : (r : Number) → real r ≡ surd r.whole r.root2
unfolding surd sum multiple one root2 real
real_is_surd r =
    coefficientwise (r.whole ∷ r.root2 ∷ []) (realᶠ (var 0) (var 1))
    (multipleᶠ (var 0) (wholeᶠ (con (pos 1))) +ᶠ multipleᶠ (var 1) root2ᶠ) (tt, tt, tt, tt)

pub odd_surd : (a b : ℤ) → odd_element (surd a b) ≡ odd a
unfolding odd_element real
odd_surd a b =
    ap odd_element (sym (real_is_surd (number a b)))
    ∙ ap odd (solve whole (a ∷ b ∷ []) (var 0 ⊕ var 1 ⊕ con (pos 0) ⊕ ⊖ var 1) (var 0) tt)

pub surd_whole : (a b c d : ℤ) → surd a b ≡ surd c d → a ≡ c
unfolding real
surd_whole a b c d e = ap (λ (x : Element). x.a0) (real_is_surd (number a b) ∙ e ∙ sym (real_is_surd (number c d)))
