-- The conjugate transpose: of a product it is the product of the conjugate transposes in reverse, it respects equality in
-- meaning, and that of a unitary matrix is its inverse, so a unitary factor on the left may be cancelled. Assumes nothing.
use mathlib.Core.Path.{◌≡◌, refl, ap, ap₂, sym, ◌∙◌}
use mathlib.Core.List.{[], ◌∷◌}
use Prim.Native.Nat.{ℕ, ◌+◌}
use native.Mathlib.Nat.{add_comm}
use Rattle.algebra.proofs.Solver.{var, con, ◌⊗◌, solve}
use lib.IntN.{pos}
use Rattle.ring.specs.declared.Element.{Element}
use Rattle.ring.specs.Element.{nothing, one, sum, product, conjugate, root2_power}
use Rattle.ring.proofs.Ring.{elements, conjugate_dot, product_comm, product_one}
use Rattle.matrix.specs.declared.Matrix.{Matrix}
use Rattle.matrix.specs.Matrix.{identity, times, adjoint, EqualOver, Same, Unitary, column_product}
use Rattle.matrix.proofs.Entries.{equal_entries}
use Rattle.matrix.proofs.Times.{times_assoc, identity_times}
use Rattle.matrix.proofs.Same.{over_conjugate, same_of_equal, same_sym, same_trans, same_times_left, same_times_right}
use Rattle.matrix.proofs.Unitary.{isometry_of_unitary, crossed_back}

-- one entry of the conjugate transpose of a product
conjugate_entry : (a b c d : Element) →
    conjugate (sum (product a b) (product c d)) ≡ sum (product (conjugate b) (conjugate a)) (product (conjugate d) (conjugate c))
conjugate_entry a b c d =
    conjugate_dot a c b d ∙ ap₂ sum (product_comm (conjugate a) (conjugate b)) (product_comm (conjugate c) (conjugate d))

pub adjoint_times : (m n : Matrix) → adjoint (times m n) ≡ times (adjoint n) (adjoint m)
unfolding adjoint times
adjoint_times m n =
    equal_entries (add_comm m.exponent n.exponent)
    (conjugate_entry m.top.left n.top.left m.top.right n.bottom.left)
    (conjugate_entry m.bottom.left n.top.left m.bottom.right n.bottom.left)
    (conjugate_entry m.top.left n.top.right m.top.right n.bottom.right)
    (conjugate_entry m.bottom.left n.top.right m.bottom.right n.bottom.right)

pub adjoint_identity : adjoint identity ≡ identity
unfolding adjoint identity conjugate one nothing
adjoint_identity = refl

pub same_adjoint : {m n : Matrix} → Same m n → Same (adjoint m) (adjoint n)
unfolding adjoint
same_adjoint {m} {n} s =
    let over = over_conjugate m.exponent n.exponent in
    record {
      top_left = over m.top.left n.top.left s.top_left;
      top_right = over m.bottom.left n.bottom.left s.bottom_left;
      bottom_left = over m.top.right n.top.right s.top_right;
      bottom_right = over m.bottom.right n.bottom.right s.bottom_right;
    }

-- ---- the inverse of a unitary matrix
-- a column times the conjugate of another, the factors exchanged
commuted : (a b c d : Element) → sum (product (conjugate b) a) (product (conjugate d) c) ≡ column_product a c b d
commuted a b c d = ap₂ sum (product_comm (conjugate b) a) (product_comm (conjugate d) c)

over_one : (k : ℕ) (x : Element) → x ≡ root2_power k → EqualOver k 0 x one
unfolding EqualOver root2_power
over_one k x e = product_comm one x ∙ product_one x ∙ e ∙ sym (product_one (root2_power k))

over_nothing : (k : ℕ) (x : Element) → x ≡ nothing → EqualOver k 0 x nothing
unfolding EqualOver root2_power
over_nothing k x e =
    ap (product one) e ∙ solve elements (root2_power k ∷ []) (con (pos 1) ⊗ con (pos 0)) (var 0 ⊗ con (pos 0)) tt

adjoint_inverse : {m : Matrix} → Unitary m → Same (times (adjoint m) m) identity
unfolding times adjoint identity
adjoint_inverse {m} unitary =
    let k = m.exponent + m.exponent in
    let i = isometry_of_unitary unitary in
    let a = m.top.left in
    let b = m.top.right in
    let c = m.bottom.left in
    let d = m.bottom.right in
    record {
      top_left = over_one k _ (commuted a a c c ∙ i.left);
      top_right = over_nothing k _ (crossed_back a b c d i.cross);
      bottom_left = over_nothing k _ (commuted a b c d ∙ i.cross);
      bottom_right = over_one k _ (commuted b b d d ∙ i.right);
    }

-- u†·(u·m) means m
undone : {u : Matrix} → Unitary u → (m : Matrix) → Same (times (adjoint u) (times u m)) m
undone {u} unitary m =
    same_trans (same_of_equal (sym (times_assoc (adjoint u) u m)))
    (same_trans (same_times_right m (adjoint_inverse unitary)) (same_of_equal (identity_times m)))

pub unitary_cancel : {u m n : Matrix} → Unitary u → Same (times u m) (times u n) → Same m n
unitary_cancel {u} {m} {n} unitary s =
    same_trans (same_sym (undone unitary m)) (same_trans (same_times_left (adjoint u) s) (undone unitary n))
