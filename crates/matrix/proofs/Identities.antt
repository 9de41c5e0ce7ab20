-- The identities of document 01 hold, phase included: one test over the table. And the tempting mistake of testing a
-- column only by the sum of squares: diag(1+ω, 1+ω)/√2 passes that and is not unitary. Assumes nothing.
use mathlib.Core.Path.{◌≡◌, refl}
use mathlib.Core.Bool.{Bool, true, ◌&&◌}
use mathlib.Core.List.{List, [], ◌∷◌}
use Prim.Native.Nat.{ℕ, ◌^◌}
use native.Mathlib.Omega.{arith}
use lib.Dec.{T as Holds}
use lib.IntN.{pos, ◌+ℤ◌}
use Rattle.ring.specs.Element.{nothing, one, omega as ω, omega2, sum, negation, multiple, turned, product, size_whole, size_root2}
use Rattle.matrix.specs.declared.Matrix.{Matrix}
use Rattle.matrix.specs.Matrix.{matrix, identity, times, Unitary}
use Rattle.matrix.specs.Letter.{matrix_of, gate, gate_H, gate_S, gate_T, gate_W, gate_X, gate_Y, gate_Z}
use Rattle.matrix.specs.Text.{bytes}
use Rattle.matrix.specs.Identities.{Identity, identities, Hold}
use Rattle.matrix.proofs.Test.{both, whole_test, element_test, raised, over_test, same_test, same_by_test}

hold_test : List Identity → Bool
hold_test [] = true
hold_test (e ∷ rest) = same_test (matrix_of e.left) (matrix_of e.right) && hold_test rest

tested_hold : (es : List Identity) → Holds (hold_test es) → Hold es
unfolding hold_test Hold
tested_hold [] h = tt
tested_hold (e ∷ rest) h =
    let (first, others) = both (same_test (matrix_of e.left) (matrix_of e.right)) (hold_test rest) h in
    (same_by_test (matrix_of e.left) (matrix_of e.right) first, tested_hold rest others)

pub identities_hold : Hold identities
unfolding identities hold_test bytes same_test over_test raised element_test whole_test matrix_of gate gate_H gate_S gate_T gate_W gate_X gate_Y gate_Z identity times nothing one ω omega2 sum negation multiple turned product
identities_hold = tested_hold identities tt

-- diag(1+ω, 1+ω)/√2
unfoldable pub tempting : Matrix
tempting = matrix 1 (sum one ω) nothing nothing (sum one ω)

-- its columns' squared sizes sum to 2, the whole parts alone
pub tempting_sums : (size_whole tempting.top.left +ℤ size_whole tempting.bottom.left ≡ pos (2 ^ 1)) × (size_whole tempting.top.right +ℤ size_whole tempting.bottom.right ≡ pos (2 ^ 1))
unfolding tempting size_whole sum one ω nothing
tempting_sums = (refl, refl)

-- and it is not unitary
pub tempting_is_not_unitary : Unitary tempting → ⊥
unfolding tempting size_root2 sum one ω nothing
tempting_is_not_unitary u = one_is_not_zero u.left_root2
  where
    one_is_not_zero : pos 1 ≡ pos 0 → ⊥
    one_is_not_zero e = let z : ◌≡◌ {A = ℕ} 1 0 = cc in omega arith
