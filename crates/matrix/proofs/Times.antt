-- The product of matrix records is associative and has its identity, and the matrix of a joined string is the product
-- of the matrices. The elements' identities are the solver's. Assumes nothing.
use mathlib.Core.Path.{◌≡◌, ap, sym, ◌∙◌}
use mathlib.Core.List.{List, [], ◌∷◌, ◌++◌}
use Prim.Native.Nat.{ℕ}
use native.Mathlib.Nat.{add_assoc, add-zero, zero-add}
use Rattle.algebra.proofs.Solver.{var, con, ◌⊕◌, ◌⊗◌, solve}
use lib.IntN.{pos}
use Rattle.ring.specs.declared.Element.{Element}
use Rattle.ring.specs.Element.{nothing, one, sum, product}
use Rattle.ring.proofs.Ring.{elements}
use Rattle.matrix.specs.declared.Matrix.{Matrix}
use Rattle.matrix.specs.Matrix.{identity, times}
use Rattle.matrix.specs.Letter.{gate, matrix_of}
use Rattle.matrix.proofs.Entries.{equal_entries}

-- one entry of a product of three: a row, a matrix, a column
row_matrix_column : (a b e f g h p q : Element) →
    sum (product (sum (product a e) (product b g)) p) (product (sum (product a f) (product b h)) q)
    ≡ sum (product a (sum (product e p) (product f q))) (product b (sum (product g p) (product h q)))
row_matrix_column a b e f g h p q =
    solve elements (a ∷ b ∷ e ∷ f ∷ g ∷ h ∷ p ∷ q ∷ [])
    ((var 0 ⊗ var 2 ⊕ var 1 ⊗ var 4) ⊗ var 6 ⊕ (var 0 ⊗ var 3 ⊕ var 1 ⊗ var 5) ⊗ var 7)
    (var 0 ⊗ (var 2 ⊗ var 6 ⊕ var 3 ⊗ var 7) ⊕ var 1 ⊗ (var 4 ⊗ var 6 ⊕ var 5 ⊗ var 7))
    tt

pub times_assoc : (m n p : Matrix) → times (times m n) p ≡ times m (times n p)
unfolding times
times_assoc m n p =
    let e = n.top.left in
    let f = n.top.right in
    let g = n.bottom.left in
    let h = n.bottom.right in
    equal_entries (add_assoc m.exponent n.exponent p.exponent)
    (row_matrix_column m.top.left m.top.right e f g h p.top.left p.bottom.left)
    (row_matrix_column m.top.left m.top.right e f g h p.top.right p.bottom.right)
    (row_matrix_column m.bottom.left m.bottom.right e f g h p.top.left p.bottom.left)
    (row_matrix_column m.bottom.left m.bottom.right e f g h p.top.right p.bottom.right)

-- a column under the identity's rows
first_of : (x y : Element) → sum (product one x) (product nothing y) ≡ x
first_of x y = solve elements (x ∷ y ∷ []) (con (pos 1) ⊗ var 0 ⊕ con (pos 0) ⊗ var 1) (var 0) tt

second_of : (x y : Element) → sum (product nothing x) (product one y) ≡ y
second_of x y = solve elements (x ∷ y ∷ []) (con (pos 0) ⊗ var 0 ⊕ con (pos 1) ⊗ var 1) (var 1) tt

-- a row before the identity's columns
left_of : (x y : Element) → sum (product x one) (product y nothing) ≡ x
left_of x y = solve elements (x ∷ y ∷ []) (var 0 ⊗ con (pos 1) ⊕ var 1 ⊗ con (pos 0)) (var 0) tt

right_of : (x y : Element) → sum (product x nothing) (product y one) ≡ y
right_of x y = solve elements (x ∷ y ∷ []) (var 0 ⊗ con (pos 0) ⊕ var 1 ⊗ con (pos 1)) (var 1) tt

pub identity_times : (m : Matrix) → times identity m ≡ m
unfolding times identity
identity_times m =
    equal_entries (zero-add m.exponent) (first_of m.top.left m.bottom.left) (first_of m.top.right m.bottom.right)
    (second_of m.top.left m.bottom.left) (second_of m.top.right m.bottom.right)

pub times_identity : (m : Matrix) → times m identity ≡ m
unfolding times identity
times_identity m =
    equal_entries (add-zero m.exponent) (left_of m.top.left m.top.right) (right_of m.top.left m.top.right)
    (left_of m.bottom.left m.bottom.right) (right_of m.bottom.left m.bottom.right)

-- the matrix of a joined string is the product of the matrices
pub matrix_of_append : (s t : List ℕ) → matrix_of (s ++ t) ≡ times (matrix_of s) (matrix_of t)
unfolding matrix_of
matrix_of_append [] t = sym (identity_times (matrix_of t))
matrix_of_append (b ∷ s) t = ap (times (gate b)) (matrix_of_append s t) ∙ sym (times_assoc (gate b) (matrix_of s) (matrix_of t))

-- the matrix of a single letter
pub matrix_of_letter : (b : ℕ) → matrix_of (b ∷ []) ≡ gate b
unfolding matrix_of
matrix_of_letter b = times_identity (gate b)
