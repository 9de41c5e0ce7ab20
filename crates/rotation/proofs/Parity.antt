-- The parity of an element, which is that of a for a + b√2: √2 times an element is even, so an odd numerator fixes its
-- exponent. The parities that a text leaves in a vector are those of its leftmost syllable: the same bit in two rows and none
-- in the third. Assumes nothing.
use mathlib.Core.Path.{◌≡◌, ap, sym, ◌∙◌}
use mathlib.Core.Bool.{Bool, false}
use mathlib.Core.List.{List, [], ◌∷◌}
use Prim.Native.Nat.{ℕ, suc, ◌+◌, ◌-◌, ◌<◌}
use native.Mathlib.Omega.{arith}
use lib.IntN.{◌+ℤ◌, neg_ℤ}
use Rattle.algebra.proofs.Whole.{whole}
use Rattle.algebra.specs.Parity.{odd}
use Rattle.algebra.proofs.Parity.{differ, odd_plus, odd_negate, odd_double}
use Rattle.algebra.proofs.Solver.{var, ◌⊕◌, ⊖◌, solve}
use Rattle.ring.specs.declared.Element.{Element}
use Rattle.ring.specs.Element.{root2, product, root2_power}
use Rattle.ring.proofs.Ring.{product_assoc}
use Rattle.ring.proofs.Root2.{root2_times, root2_power_plus, root2_power_cancel}
use Rattle.matrix.specs.Matrix.{EqualOver}
use Rattle.matrix.specs.Letter.{H, S, T}
use Rattle.rotation.specs.Rotation.{Axis, axis_X, axis_Y, axis_Z}
use Rattle.ring.specs.declared.Vector.{Vector}
use Rattle.ring.specs.Real.{negated}
use Rattle.rotation.specs.Vector.{added, subtracted, by_root2, at, rotated, text_rotated}

-- the parity of an element: ω counts as one, so √2 counts as nothing
unfoldable pub odd_element : Element → Bool
odd_element x = odd (x.a0 +ℤ x.a1 +ℤ x.a2 +ℤ x.a3)

root2_is_even : (x : Element) → odd_element (product root2 x) ≡ false
unfolding odd_element
root2_is_even x =
    ap odd_element (root2_times x)
    ∙ ap odd
    (solve whole (x.a0 ∷ x.a1 ∷ x.a2 ∷ x.a3 ∷ [])
    ((var 1 ⊕ ⊖ var 3) ⊕ (var 0 ⊕ var 2) ⊕ (var 1 ⊕ var 3) ⊕ (var 2 ⊕ ⊖ var 0)) ((var 1 ⊕ var 2) ⊕ (var 1 ⊕ var 2)) tt)
    ∙ odd_double (x.a1 +ℤ x.a2)

-- an element over a higher power of √2 than it needs is even
pub higher_is_even : (k l : ℕ) (x y : Element) → EqualOver k l x y → k < l → odd_element y ≡ false
unfolding EqualOver root2_power
higher_is_even k l x y e less =
    let d : ℕ = l - suc k in
    let split : l ≡ k + suc d = omega arith in
    let scaled : product root2 (product (root2_power d) x) ≡ y =
    root2_power_cancel k (product root2 (product (root2_power d) x)) y
    (ap (product (root2_power k)) (sym (product_assoc root2 (root2_power d) x))
    ∙ sym (product_assoc (root2_power k) (root2_power (suc d)) x)
    ∙ ap (λ (r : Element). product r x) (sym (root2_power_plus k (suc d)) ∙ sym (ap root2_power split))
    ∙ e) in
    sym (ap odd_element scaled) ∙ root2_is_even (product (root2_power d) x)

-- ---- the parities of a vector
-- the parity of the number along an axis
abbrev pub odd_at : Vector → Axis → Bool
odd_at v p = odd (at v p).whole

-- x and y differ in parity
unfoldable pub mixed : Vector → Bool
mixed v = differ (odd v.x.whole) (odd v.y.whole)

-- even in one row, the same bit in the other two
unfoldable pub pattern : Axis → Bool → Axis → Bool
pattern axis_X bit axis_X = false
pattern axis_X bit axis_Y = bit
pattern axis_X bit axis_Z = bit
pattern axis_Y bit axis_X = bit
pattern axis_Y bit axis_Y = false
pattern axis_Y bit axis_Z = bit
pattern axis_Z bit axis_X = bit
pattern axis_Z bit axis_Y = bit
pattern axis_Z bit axis_Z = false

-- T leaves the third row even
pub after_T : (w : List ℕ) (v : Vector) (p : Axis) → odd_at (text_rotated (T ∷ w) v) p ≡ pattern axis_Z (mixed (text_rotated w v)) p
unfolding text_rotated rotated at subtracted added by_root2 pattern mixed
after_T w v axis_X =
    let r = text_rotated w v in
    odd_plus r.x.whole (neg_ℤ r.y.whole) ∙ ap (differ (odd r.x.whole)) (odd_negate r.y.whole)
after_T w v axis_Y = let r = text_rotated w v in odd_plus r.x.whole r.y.whole
after_T w v axis_Z = odd_double (text_rotated w v).z.root2

-- HT the first
pub after_HT : (w : List ℕ) (v : Vector) (p : Axis) → odd_at (text_rotated (H ∷ T ∷ w) v) p ≡ pattern axis_X (mixed (text_rotated w v)) p
unfolding text_rotated rotated at negated pattern
after_HT w v axis_X = after_T w v axis_Z
after_HT w v axis_Y = odd_negate (text_rotated (T ∷ w) v).y.whole ∙ after_T w v axis_Y
after_HT w v axis_Z = after_T w v axis_X

-- and SHT the second
pub after_SHT : (w : List ℕ) (v : Vector) (p : Axis) → odd_at (text_rotated (S ∷ H ∷ T ∷ w) v) p ≡ pattern axis_Y (mixed (text_rotated w v)) p
unfolding text_rotated rotated at negated pattern
after_SHT w v axis_X = odd_negate (text_rotated (H ∷ T ∷ w) v).y.whole ∙ after_HT w v axis_Y
after_SHT w v axis_Y = after_HT w v axis_X
after_SHT w v axis_Z = after_HT w v axis_Z
