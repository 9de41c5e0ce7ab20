-- Every letter is unitary, products and conjugate transposes of unitary records are, and so is a record that means the
-- same as one: the eight whole-number equations are three equations between elements. Assumes nothing.
use mathlib.Core.Path.{◌≡◌, refl, ap, ap₂, sym, ◌∙◌}
use mathlib.Core.Bool.{true}
use mathlib.Core.List.{List, [], ◌∷◌}
use Prim.Native.Nat.{ℕ, ◌+◌, ◌^◌}
use native.Mathlib.Omega.{arith}
use lib.IntN.{ℤ, pos, ◌+ℤ◌, neg_ℤ}
use Rattle.lists.specs.List.{none, more}
use Rattle.algebra.proofs.Ring.{times_none}
use Rattle.algebra.proofs.Solver.{var, con, ◌⊕◌, ◌⊗◌, ⊖◌, solve, combine, given, done}
use Rattle.ring.specs.declared.Element.{Element}
use Rattle.ring.specs.Element.{element, nothing, one, omega as ω, omega2, root2, sum, product, multiple, turned, negation, conjugate, size_whole, size_root2, root2_power}
use Rattle.ring.proofs.Formal.{formal, ◌+ᶠ◌, ◌*ᶠ◌, wholeᶠ, root2ᶠ, coefficientwise}
use Rattle.ring.proofs.Ring.{elements, whole_element, whole_sum, product_comm, conjugate_conjugate, conjugate_dot, conjugate_nothing, size_is_product}
use Rattle.ring.proofs.Root2.{two_power, root2_power_plus, root2_power_cancel}
use Rattle.matrix.specs.declared.Matrix.{Matrix}
use Rattle.matrix.specs.Matrix.{column_product, identity, times, adjoint, EqualOver, Same, Unitary}
use Rattle.matrix.specs.Letter.{gate, gate_H, gate_S, gate_T, gate_W, gate_X, gate_Y, gate_Z, is_letter, matrix_of, Letters}
use Rattle.matrix.proofs.Same.{over_conjugate}
use Rattle.matrix.proofs.Letter.{by_letter}

-- unitary, as equations between elements
pub record Isometry (m : Matrix) : Type 0 where
  pub left : column_product m.top.left m.bottom.left m.top.left m.bottom.left ≡ root2_power (m.exponent + m.exponent)
  pub right : column_product m.top.right m.bottom.right m.top.right m.bottom.right ≡ root2_power (m.exponent + m.exponent)
  pub cross : column_product m.top.left m.bottom.left m.top.right m.bottom.right ≡ nothing

-- a whole number and a multiple of √2, coefficient by coefficient
whole_and_root2 : (s r : ℤ) → sum (whole_element s) (product (whole_element r) root2) ≡ element s r (pos 0) (neg_ℤ r)
unfolding sum product multiple turned root2
whole_and_root2 s r =
    coefficientwise (s ∷ r ∷ []) (wholeᶠ (var 0) +ᶠ wholeᶠ (var 1) *ᶠ root2ᶠ)
    (formal (var 0) (var 1) (con (pos 0)) (⊖ var 1)) (tt, tt, tt, tt)

-- the squared sizes of a column are the sum of the whole parts, and √2 times the sum of the √2 parts
pub column_sizes : (x y : Element) →
    column_product x y x y
    ≡ element (size_whole x +ℤ size_whole y) (size_root2 x +ℤ size_root2 y) (pos 0) (neg_ℤ (size_root2 x +ℤ size_root2 y))
column_sizes x y =
    ap₂ sum (size_is_product x) (size_is_product y)
    ∙ solve elements (whole_element (size_whole x) ∷ whole_element (size_root2 x) ∷ whole_element (size_whole y) ∷ whole_element (size_root2 y) ∷ root2 ∷ [])
    ((var 0 ⊕ var 1 ⊗ var 4) ⊕ (var 2 ⊕ var 3 ⊗ var 4)) ((var 0 ⊕ var 2) ⊕ (var 1 ⊕ var 3) ⊗ var 4) tt
    ∙ ap₂ (λ (s r : Element). sum s (product r root2)) (sym (whole_sum (size_whole x) (size_whole y))) (sym (whole_sum (size_root2 x) (size_root2 y)))
    ∙ whole_and_root2 (size_whole x +ℤ size_whole y) (size_root2 x +ℤ size_root2 y)

column_of_sizes : (x y : Element) (k : ℕ) → size_whole x +ℤ size_whole y ≡ pos (2 ^ k) → size_root2 x +ℤ size_root2 y ≡ pos 0 →
    column_product x y x y ≡ root2_power (k + k)
column_of_sizes x y k whole root = column_sizes x y ∙ ap₂ (λ (s r : ℤ). element s r (pos 0) (neg_ℤ r)) whole root ∙ two_power k

sizes_of_column : (x y : Element) (k : ℕ) → column_product x y x y ≡ root2_power (k + k) →
    element (size_whole x +ℤ size_whole y) (size_root2 x +ℤ size_root2 y) (pos 0) (neg_ℤ (size_root2 x +ℤ size_root2 y)) ≡ whole_element (pos (2 ^ k))
sizes_of_column x y k e = sym (column_sizes x y) ∙ e ∙ sym (two_power k)

pub isometry_of_unitary : {m : Matrix} → Unitary m → Isometry m
isometry_of_unitary {m} u = record {
  left = column_of_sizes m.top.left m.bottom.left m.exponent u.left_whole u.left_root2;
  right = column_of_sizes m.top.right m.bottom.right m.exponent u.right_whole u.right_root2;
  cross = u.columns;
}

pub unitary_of_isometry : {m : Matrix} → Isometry m → Unitary m
unitary_of_isometry {m} i =
    let left = sizes_of_column m.top.left m.bottom.left m.exponent i.left in
    let right = sizes_of_column m.top.right m.bottom.right m.exponent i.right in
    record {
      left_whole = ap (λ (z : Element). z.a0) left;
      left_root2 = ap (λ (z : Element). z.a1) left;
      right_whole = ap (λ (z : Element). z.a0) right;
      right_root2 = ap (λ (z : Element). z.a1) right;
      columns = i.cross;
    }

-- the columns crossed the other way round
pub crossed_back : (a b c d : Element) → column_product a c b d ≡ nothing → sum (product (conjugate a) b) (product (conjugate c) d) ≡ nothing
crossed_back a b c d e =
    sym (conjugate_dot a c (conjugate b) (conjugate d)
    ∙ ap₂ (λ (x y : Element). sum (product (conjugate a) x) (product (conjugate c) y)) (conjugate_conjugate b) (conjugate_conjugate d))
    ∙ ap conjugate e ∙ conjugate_nothing

-- a matrix with orthogonal columns of one size multiplies the product of any two columns by that size
column_product_times : (m : Matrix) → Isometry m → (e g f h : Element) →
    column_product (sum (product m.top.left e) (product m.top.right g)) (sum (product m.bottom.left e) (product m.bottom.right g))
    (sum (product m.top.left f) (product m.top.right h)) (sum (product m.bottom.left f) (product m.bottom.right h))
    ≡ product (root2_power (m.exponent + m.exponent)) (column_product e g f h)
column_product_times m i e g f h =
    let a = m.top.left in
    let b = m.top.right in
    let c = m.bottom.left in
    let d = m.bottom.right in
    ap₂ (λ (u v : Element). sum (product (sum (product a e) (product b g)) u) (product (sum (product c e) (product d g)) v))
    (conjugate_dot a b f h) (conjugate_dot c d f h)
    ∙ combine elements
    (a ∷ b ∷ c ∷ d ∷ conjugate a ∷ conjugate b ∷ conjugate c ∷ conjugate d ∷ e ∷ g ∷ conjugate f ∷ conjugate h ∷ root2_power (m.exponent + m.exponent) ∷ [])
    (given (var 8 ⊗ var 10) (var 0 ⊗ var 4 ⊕ var 2 ⊗ var 6) (var 12) i.left
    (given (var 9 ⊗ var 11) (var 1 ⊗ var 5 ⊕ var 3 ⊗ var 7) (var 12) i.right
    (given (var 8 ⊗ var 11) (var 0 ⊗ var 5 ⊕ var 2 ⊗ var 7) (con (pos 0)) i.cross
    (given (var 9 ⊗ var 10) (var 4 ⊗ var 1 ⊕ var 6 ⊗ var 3) (con (pos 0)) (crossed_back a b c d i.cross) done))))
    ((var 0 ⊗ var 8 ⊕ var 1 ⊗ var 9) ⊗ (var 4 ⊗ var 10 ⊕ var 5 ⊗ var 11) ⊕ (var 2 ⊗ var 8 ⊕ var 3 ⊗ var 9) ⊗ (var 6 ⊗ var 10 ⊕ var 7 ⊗ var 11))
    (var 12 ⊗ (var 8 ⊗ var 10 ⊕ var 9 ⊗ var 11))
    tt

-- the size of a product's columns
doubled_sum : (k l : ℕ) → product (root2_power (k + k)) (root2_power (l + l)) ≡ root2_power (k + l + (k + l))
doubled_sum k l = sym (root2_power_plus (k + k) (l + l)) ∙ ap root2_power (regroup k l)
  where
    regroup : (i j : ℕ) → i + i + (j + j) ≡ i + j + (i + j)
    regroup i j = omega arith

pub isometry_times : {m n : Matrix} → Isometry m → Isometry n → Isometry (times m n)
unfolding times
isometry_times {m} {n} i j =
    let columns = column_product_times m i in
    let size = root2_power (m.exponent + m.exponent) in
    record {
      left = columns n.top.left n.bottom.left n.top.left n.bottom.left ∙ ap (product size) j.left ∙ doubled_sum m.exponent n.exponent;
      right = columns n.top.right n.bottom.right n.top.right n.bottom.right ∙ ap (product size) j.right ∙ doubled_sum m.exponent n.exponent;
      cross = columns n.top.left n.bottom.left n.top.right n.bottom.right ∙ ap (product size) j.cross ∙ times_none elements size;
    }

-- the rows of a matrix with orthogonal columns of one size are orthogonal and of that size
pub isometry_adjoint : {m : Matrix} → Isometry m → Isometry (adjoint m)
unfolding adjoint
isometry_adjoint {m} i =
    let a = m.top.left in
    let b = m.top.right in
    let c = m.bottom.left in
    let d = m.bottom.right in
    let size = root2_power (m.exponent + m.exponent) in
    let values = a ∷ b ∷ c ∷ d ∷ conjugate a ∷ conjugate b ∷ conjugate c ∷ conjugate d ∷ size ∷ [] in
    let back = crossed_back a b c d i.cross in
    let cancel = root2_power_cancel (m.exponent + m.exponent) in
    record {
      left =
          ap₂ (λ (u v : Element). sum (product (conjugate a) u) (product (conjugate b) v)) (conjugate_conjugate a) (conjugate_conjugate b)
          ∙ cancel (sum (product (conjugate a) a) (product (conjugate b) b)) size
          (combine elements values
          (given (var 3 ⊗ var 7) (var 0 ⊗ var 4 ⊕ var 2 ⊗ var 6) (var 8) i.left
          (given (var 8 ⊕ ⊖ (var 0 ⊗ var 4)) (var 1 ⊗ var 5 ⊕ var 3 ⊗ var 7) (var 8) i.right
          (given (⊖ (var 6 ⊗ var 3)) (var 0 ⊗ var 5 ⊕ var 2 ⊗ var 7) (con (pos 0)) i.cross
          (given (var 0 ⊗ var 5) (var 4 ⊗ var 1 ⊕ var 6 ⊗ var 3) (con (pos 0)) back done))))
          (var 8 ⊗ (var 4 ⊗ var 0 ⊕ var 5 ⊗ var 1)) (var 8 ⊗ var 8) tt);
      right =
          ap₂ (λ (u v : Element). sum (product (conjugate c) u) (product (conjugate d) v)) (conjugate_conjugate c) (conjugate_conjugate d)
          ∙ cancel (sum (product (conjugate c) c) (product (conjugate d) d)) size
          (combine elements values
          (given (var 1 ⊗ var 5) (var 0 ⊗ var 4 ⊕ var 2 ⊗ var 6) (var 8) i.left
          (given (var 8 ⊕ ⊖ (var 2 ⊗ var 6)) (var 1 ⊗ var 5 ⊕ var 3 ⊗ var 7) (var 8) i.right
          (given (⊖ (var 4 ⊗ var 1)) (var 0 ⊗ var 5 ⊕ var 2 ⊗ var 7) (con (pos 0)) i.cross
          (given (var 2 ⊗ var 7) (var 4 ⊗ var 1 ⊕ var 6 ⊗ var 3) (con (pos 0)) back done))))
          (var 8 ⊗ (var 6 ⊗ var 2 ⊕ var 7 ⊗ var 3)) (var 8 ⊗ var 8) tt);
      cross =
          ap₂ (λ (u v : Element). sum (product (conjugate a) u) (product (conjugate b) v)) (conjugate_conjugate c) (conjugate_conjugate d)
          ∙ cancel (sum (product (conjugate a) c) (product (conjugate b) d)) nothing
          (combine elements values
          (given (var 4 ⊗ var 3) (var 0 ⊗ var 5 ⊕ var 2 ⊗ var 7) (con (pos 0)) i.cross
          (given (var 5 ⊗ var 2) (var 4 ⊗ var 1 ⊕ var 6 ⊗ var 3) (con (pos 0)) back
          (given (⊖ (var 5 ⊗ var 3)) (var 0 ⊗ var 4 ⊕ var 2 ⊗ var 6) (var 8) i.left
          (given (⊖ (var 4 ⊗ var 2)) (var 1 ⊗ var 5 ⊕ var 3 ⊗ var 7) (var 8) i.right done))))
          (var 8 ⊗ (var 4 ⊗ var 2 ⊕ var 5 ⊗ var 3)) (var 8 ⊗ con (pos 0)) tt);
    }

-- products of columns, over the exponents doubled
over_column_product : (k l : ℕ) (x y u v x' y' u' v' : Element) →
    EqualOver k l x x' → EqualOver k l y y' → EqualOver k l u u' → EqualOver k l v v' →
    product (root2_power (k + k)) (column_product x' y' u' v') ≡ product (root2_power (l + l)) (column_product x y u v)
unfolding EqualOver
over_column_product k l x y u v x' y' u' v' ex ey eu ev =
    ap (λ (r : Element). product r (column_product x' y' u' v')) (root2_power_plus k k)
    ∙ combine elements
    (root2_power k ∷ root2_power l ∷ x ∷ y ∷ conjugate u ∷ conjugate v ∷ x' ∷ y' ∷ conjugate u' ∷ conjugate v' ∷ [])
    (given (⊖ (var 1 ⊗ var 4)) (var 1 ⊗ var 2) (var 0 ⊗ var 6) ex
    (given (⊖ (var 1 ⊗ var 5)) (var 1 ⊗ var 3) (var 0 ⊗ var 7) ey
    (given (⊖ (var 0 ⊗ var 6)) (var 1 ⊗ var 4) (var 0 ⊗ var 8) (over_conjugate k l u u' eu)
    (given (⊖ (var 0 ⊗ var 7)) (var 1 ⊗ var 5) (var 0 ⊗ var 9) (over_conjugate k l v v' ev) done))))
    (var 0 ⊗ var 0 ⊗ (var 6 ⊗ var 8 ⊕ var 7 ⊗ var 9)) (var 1 ⊗ var 1 ⊗ (var 2 ⊗ var 4 ⊕ var 3 ⊗ var 5))
    tt
    ∙ ap (λ (r : Element). product r (column_product x y u v)) (sym (root2_power_plus l l))

pub isometry_same : {m n : Matrix} → Same m n → Isometry m → Isometry n
isometry_same {m} {n} s i =
    let k = m.exponent in
    let l = n.exponent in
    let over = over_column_product k l in
    let cancel = root2_power_cancel (k + k) in
    let swap = product_comm (root2_power (l + l)) (root2_power (k + k)) in
    record {
      left =
          cancel (column_product n.top.left n.bottom.left n.top.left n.bottom.left) (root2_power (l + l))
          (over m.top.left m.bottom.left m.top.left m.bottom.left n.top.left n.bottom.left n.top.left n.bottom.left
          s.top_left s.bottom_left s.top_left s.bottom_left
          ∙ ap (product (root2_power (l + l))) i.left ∙ swap);
      right =
          cancel (column_product n.top.right n.bottom.right n.top.right n.bottom.right) (root2_power (l + l))
          (over m.top.right m.bottom.right m.top.right m.bottom.right n.top.right n.bottom.right n.top.right n.bottom.right
          s.top_right s.bottom_right s.top_right s.bottom_right
          ∙ ap (product (root2_power (l + l))) i.right ∙ swap);
      cross =
          cancel (column_product n.top.left n.bottom.left n.top.right n.bottom.right) nothing
          (over m.top.left m.bottom.left m.top.right m.bottom.right n.top.left n.bottom.left n.top.right n.bottom.right
          s.top_left s.bottom_left s.top_right s.bottom_right
          ∙ ap (product (root2_power (l + l))) i.cross ∙ times_none elements (root2_power (l + l))
          ∙ sym (times_none elements (root2_power (k + k))));
    }

-- products and conjugate transposes of unitary records are unitary, and so is a record that means the same as one
pub unitary_times : {m n : Matrix} → Unitary m → Unitary n → Unitary (times m n)
unitary_times u v = unitary_of_isometry (isometry_times (isometry_of_unitary u) (isometry_of_unitary v))

pub unitary_adjoint : {m : Matrix} → Unitary m → Unitary (adjoint m)
unitary_adjoint u = unitary_of_isometry (isometry_adjoint (isometry_of_unitary u))

pub unitary_same : {m n : Matrix} → Same m n → Unitary m → Unitary n
unitary_same s u = unitary_of_isometry (isometry_same s (isometry_of_unitary u))

pub unitary_identity : Unitary identity
unfolding identity one nothing size_whole size_root2 sum product multiple turned conjugate
unitary_identity = record { left_whole = refl; left_root2 = refl; right_whole = refl; right_root2 = refl; columns = refl }

-- "every letter is unitary"
pub unitary_letter : (b : ℕ) → is_letter b ≡ true → Unitary (gate b)
unfolding gate gate_H gate_S gate_T gate_W gate_X gate_Y gate_Z one nothing ω omega2 negation size_whole size_root2 sum product multiple turned conjugate
unitary_letter b =
    by_letter (λ (l : ℕ). Unitary (gate l)) b
    (search) (search) (search) (search) (search) (search) (search)

-- the matrix of a letter list is unitary
pub unitary_matrix_of : (w : List ℕ) → Letters w → Unitary (matrix_of w)
unfolding matrix_of
unitary_matrix_of [] none = unitary_identity
unitary_matrix_of (b ∷ s) (more l ls) = unitary_times (unitary_letter b l) (unitary_matrix_of s ls)
