-- The powers of ω that signs tell are below eight, so the letters of a diagonal record are at most eleven. Assumes nothing.
use mathlib.Core.Bool.{Bool, true, false, cond}
use Prim.Native.Nat.{ℕ, ◌<◌}
use lib.Dec.{lit<}
use lib.IntN.{ℤ, pos}
use lib.Signed.{lt_z}
use Rattle.ring.specs.declared.Element.{Element}
use Rattle.complete.specs.Descent.{by_sign, phase}

either_below : (t : Bool) (m n : ℕ) → m < 8 → n < 8 → cond t m n < 8
either_below true m n h k = h
either_below false m n h k = k

sign_below : (z : ℤ) (above below at : ℕ) → above < 8 → below < 8 → at < 8 → by_sign z above below at < 8
unfolding by_sign
sign_below z above below at h k l =
    either_below (lt_z (pos 0) z) above (cond (lt_z z (pos 0)) below at) h (either_below (lt_z z (pos 0)) below at k l)

pub phase_below : (x : Element) → phase x < 8
unfolding phase
phase_below x =
    let sides = sign_below x.a1 _ _ _ (sign_below x.a3 2 0 1 (lit< tt) (lit< tt) (lit< tt)) (sign_below x.a3 4 6 5 (lit< tt) (lit< tt) (lit< tt)) (sign_below x.a3 3 7 0 (lit< tt) (lit< tt) (lit< tt)) in
    sign_below x.a0 _ _ _ (sign_below x.a2 1 7 0 (lit< tt) (lit< tt) (lit< tt)) (sign_below x.a2 3 5 4 (lit< tt) (lit< tt) (lit< tt))
    (sign_below x.a2 2 6 _ (lit< tt) (lit< tt) sides)
