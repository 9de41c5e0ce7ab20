-- Where the vector is +z the record is diagonal, its two entries are powers of ω, and T or nothing, S's and W's are its
-- letters. Assumes nothing.
use mathlib.Core.Path.{◌≡◌, refl, ap, ap₂, sym, ◌∙◌, subst}
use mathlib.Core.List.{List, [], ◌∷◌, ◌++◌}
use Prim.Native.Nat.{ℕ, zero, suc, ◌+◌, ◌/◌, ◌%◌, ◌<◌}
use native.Mathlib.Nat.{zero-add, suc-add}
use native.Mathlib.Decide.{dec_lt}
use native.Mathlib.Omega.{arith}
use lib.IntN.{pos}
use lib.ListN.{replicate}
use Rattle.algebra.proofs.Ring.{times_none}
use Rattle.algebra.proofs.Solver.{var, con, ◌⊕◌, ◌⊗◌, ⊖◌, solve, combine, given, done}
use Rattle.algebra.proofs.Cancellation.{four_squares_zero}
use Rattle.ring.specs.declared.Element.{Element}
use Rattle.ring.specs.Element.{element, nothing, one, omega as ω, omega2, root2, sum, product, multiple, turned, negation, conjugate, size_whole, root2_power}
use Rattle.ring.proofs.Ring.{elements, product_assoc, product_comm, product_one, conjugate_conjugate, conjugate_nothing}
use Rattle.ring.proofs.Root2.{root2_squared, root2_cancel, root2_power_cancel}
use Rattle.matrix.specs.declared.Matrix.{Matrix}
use Rattle.matrix.specs.Matrix.{matrix, identity, times, Same, EqualOver}
use Rattle.matrix.specs.Letter.{S, T, W, gate, gate_S, gate_T, gate_W, matrix_of}
use Rattle.matrix.proofs.Entries.{equal_entries}
use Rattle.matrix.proofs.Unitary.{Isometry, isometry_of_unitary}
use Rattle.complete.specs.declared.Rest.{Rest}
use Rattle.ring.specs.Real.{number, real}
use Rattle.complete.specs.Vector.{two, Guided}
use Rattle.complete.specs.Descent.{phase, turn, phases_text, diagonal_text}
use Rattle.complete.proofs.Unit.{size_real, OfSize, omega_power, phase_of_size}

-- ---- the record is diagonal
-- an element of squared size nothing is nothing
zero_size : (t : Element) → product t (conjugate t) ≡ nothing → t ≡ nothing
unfolding real nothing size_whole
zero_size t e =
    let squares = ap (λ (x : Element). x.a0) (sym (size_real t) ∙ e) in
    let zeros = four_squares_zero t.a0 t.a1 t.a2 t.a3 squares in
    λ i. element (zeros.0 i) (zeros.1 i) (zeros.2 i) (zeros.3 i)

twice_cancel : (x : Element) → product two x ≡ nothing → x ≡ nothing
twice_cancel x e =
    root2_cancel x nothing
    (root2_cancel (product root2 x) (product root2 nothing)
    (combine elements (root2 ∷ x ∷ [])
    (given (var 1) (var 0 ⊗ var 0) (con (pos 2)) root2_squared (given (con (pos 1)) (con (pos 2) ⊗ var 1) (con (pos 0)) e done))
    (var 0 ⊗ (var 0 ⊗ var 1)) (var 0 ⊗ (var 0 ⊗ con (pos 0))) tt))

up_is_one : real (number (pos 1) (pos 0)) ≡ one
unfolding real one
up_is_one = refl

bottom_left_nothing : {r : Rest} → Guided r 0 → r.vector.z ≡ number (pos 1) (pos 0) → r.matrix.bottom.left ≡ nothing
unfolding root2_power
bottom_left_nothing {r} g up =
    zero_size r.matrix.bottom.left
    (twice_cancel (product r.matrix.bottom.left (conjugate r.matrix.bottom.left))
    (g.led.bottom
    ∙ ap (λ (z : Element). product (root2_power g.scale) (sum one (negation z))) (ap real up ∙ up_is_one)
    ∙ solve elements (root2_power g.scale ∷ []) (var 0 ⊗ (con (pos 1) ⊕ ⊖ con (pos 1))) (con (pos 0)) tt))

module _ (m : Matrix) (i : Isometry m) (corner : m.bottom.left ≡ nothing) where
  -- the first entry has the whole size of its column
  top_left_size : OfSize m.exponent m.top.left
  top_left_size = record {
    size =
        combine elements (m.top.left ∷ conjugate m.top.left ∷ m.bottom.left ∷ conjugate m.bottom.left ∷ root2_power (m.exponent + m.exponent) ∷ [])
        (given (con (pos 1)) (var 0 ⊗ var 1 ⊕ var 2 ⊗ var 3) (var 4) i.left
        (given (⊖ var 3) (var 2) (con (pos 0)) corner done))
        (var 0 ⊗ var 1) (var 4) tt;
  }

  -- so the columns can only be orthogonal where the other is nothing
  top_right_nothing : m.top.right ≡ nothing
  top_right_nothing =
      sym (conjugate_conjugate m.top.right)
      ∙ ap conjugate
      (root2_power_cancel (m.exponent + m.exponent) (conjugate m.top.right) nothing
      (combine elements
      (m.top.left ∷ conjugate m.top.left ∷ m.bottom.left ∷ conjugate m.bottom.right ∷ conjugate m.top.right ∷ root2_power (m.exponent + m.exponent) ∷ [])
      (given (⊖ var 4) (var 0 ⊗ var 1) (var 5) top_left_size.size
      (given (var 1) (var 0 ⊗ var 4 ⊕ var 2 ⊗ var 3) (con (pos 0)) i.cross
      (given (⊖ (var 1 ⊗ var 3)) (var 2) (con (pos 0)) corner done)))
      (var 5 ⊗ var 4) (var 5 ⊗ con (pos 0)) tt))
      ∙ conjugate_nothing

  bottom_right_size : OfSize m.exponent m.bottom.right
  bottom_right_size = record {
    size =
        combine elements (m.top.right ∷ conjugate m.top.right ∷ m.bottom.right ∷ conjugate m.bottom.right ∷ root2_power (m.exponent + m.exponent) ∷ [])
        (given (con (pos 1)) (var 0 ⊗ var 1 ⊕ var 2 ⊗ var 3) (var 4) i.right
        (given (⊖ var 1) (var 0) (con (pos 0)) top_right_nothing done))
        (var 2 ⊗ var 3) (var 4) tt;
  }

-- ---- diagonal records and their letters
abbrev diagonal : Element → Element → Matrix
diagonal p q = matrix 0 p nothing nothing q

-- a diagonal record times another
diagonal_times : (a b p q : Element) → times (diagonal a b) (diagonal p q) ≡ diagonal (product a p) (product b q)
unfolding times
diagonal_times a b p q =
    equal_entries (zero-add 0)
    (solve elements (a ∷ p ∷ []) (var 0 ⊗ var 1 ⊕ con (pos 0) ⊗ con (pos 0)) (var 0 ⊗ var 1) tt)
    (solve elements (a ∷ q ∷ []) (var 0 ⊗ con (pos 0) ⊕ con (pos 0) ⊗ var 1) (con (pos 0)) tt)
    (solve elements (b ∷ p ∷ []) (con (pos 0) ⊗ var 1 ⊕ var 0 ⊗ con (pos 0)) (con (pos 0)) tt)
    (solve elements (b ∷ q ∷ []) (con (pos 0) ⊗ con (pos 0) ⊕ var 0 ⊗ var 1) (var 0 ⊗ var 1) tt)

one_product : (x : Element) → product one x ≡ x
one_product x = product_comm one x ∙ product_one x

omega_squared : product ω ω ≡ omega2
unfolding product sum multiple turned ω omega2
omega_squared = refl

omega_power_eight : omega_power 8 ≡ one
unfolding omega_power product sum multiple turned ω one
omega_power_eight = refl

-- W's: both entries are turned
W_matrix : (j : ℕ) → matrix_of (replicate j W) ≡ diagonal (omega_power j) (omega_power j)
unfolding matrix_of gate gate_W omega_power identity
W_matrix zero = refl
W_matrix (suc j) = ap (times gate_W) (W_matrix j) ∙ diagonal_times ω ω (omega_power j) (omega_power j)

-- S's in front: the second entry is turned by two for each
S_matrix : (c n : ℕ) (p : Element) (s : List ℕ) → matrix_of s ≡ diagonal p (omega_power n) →
    matrix_of (replicate c S ++ s) ≡ diagonal p (omega_power (c + c + n))
unfolding matrix_of gate gate_S omega_power
S_matrix zero n p s e = e ∙ ap (λ (j : ℕ). diagonal p (omega_power j)) (sym (zero-add n))
S_matrix (suc c) n p s e =
    ap (times gate_S) (S_matrix c n p s e) ∙ diagonal_times one omega2 p (omega_power (c + c + n))
    ∙ ap₂ diagonal (one_product p)
    (ap (λ (x : Element). product x (omega_power (c + c + n))) (sym omega_squared)
    ∙ solve elements (ω ∷ omega_power (c + c + n) ∷ []) (var 0 ⊗ var 0 ⊗ var 1) (var 0 ⊗ (var 0 ⊗ var 1)) tt
    ∙ ap omega_power next)
  where
    next : suc (suc (c + c + n)) ≡ suc c + suc c + n
    next = omega arith

-- T's in front: the second entry is turned by one for each
T_matrix : (c n : ℕ) (p : Element) (s : List ℕ) → matrix_of s ≡ diagonal p (omega_power n) →
    matrix_of (replicate c T ++ s) ≡ diagonal p (omega_power (c + n))
unfolding matrix_of gate gate_T omega_power
T_matrix zero n p s e = e ∙ ap (λ (j : ℕ). diagonal p (omega_power j)) (sym (zero-add n))
T_matrix (suc c) n p s e =
    ap (times gate_T) (T_matrix c n p s e) ∙ diagonal_times one ω p (omega_power (c + n))
    ∙ ap₂ diagonal (one_product p) (ap omega_power (sym (suc-add c n)))

omega_power_plus : (j n : ℕ) → omega_power (j + n) ≡ product (omega_power j) (omega_power n)
unfolding omega_power
omega_power_plus zero n = ap omega_power (zero-add n) ∙ sym (one_product (omega_power n))
omega_power_plus (suc j) n =
    ap omega_power (suc-add j n) ∙ ap (product ω) (omega_power_plus j n)
    ∙ sym (product_assoc ω (omega_power j) (omega_power n))

-- eight turns are none
full_turn : (n : ℕ) → omega_power (8 + n) ≡ omega_power n
full_turn n = omega_power_plus 8 n ∙ ap (λ (x : Element). product x (omega_power n)) omega_power_eight ∙ one_product (omega_power n)

pub phases_matrix : (j l : ℕ) → j < 8 → l < 8 → matrix_of (phases_text j l) ≡ diagonal (omega_power j) (omega_power l)
unfolding phases_text
phases_matrix j l j_below l_below =
    T_matrix (turn j l % 2) (turn j l / 2 + turn j l / 2 + j) (omega_power j) (replicate (turn j l / 2) S ++ replicate j W)
    (S_matrix (turn j l / 2) j (omega_power j) (replicate j W) (W_matrix j))
    ∙ ap (diagonal (omega_power j)) (turned_to (dec_lt l j))
  where
    turned_to : Dec (l < j) → omega_power (turn j l % 2 + (turn j l / 2 + turn j l / 2 + j)) ≡ omega_power l
    turned_to (yes h) = ap omega_power (omega arith) ∙ full_turn l
    turned_to (no h) = ap omega_power (omega arith)

-- a guided rest whose vector is +z is what its letters mean
pub diagonal_means : {r : Rest} → Guided r 0 → r.vector.z ≡ number (pos 1) (pos 0) → Same (matrix_of (diagonal_text r.matrix)) r.matrix
unfolding diagonal_text EqualOver root2_power
diagonal_means {r} g up =
    let m = r.matrix in
    let i = isometry_of_unitary g.unitary in
    let corner = bottom_left_nothing g up in
    let u = phase_of_size m.exponent m.top.left (top_left_size m i corner) in
    let w = phase_of_size m.exponent m.bottom.right (bottom_right_size m i corner) in
    subst (λ (n : Matrix). Same n m) (sym (phases_matrix (phase m.top.left) (phase m.bottom.right) u.below w.below))
    (record {
      top_left = sym u.is ∙ sym (one_product m.top.left);
      top_right = times_none elements (root2_power m.exponent) ∙ sym (one_product m.top.right ∙ top_right_nothing m i corner);
      bottom_left = times_none elements (root2_power m.exponent) ∙ sym (one_product m.bottom.left ∙ corner);
      bottom_right = sym w.is ∙ sym (one_product m.bottom.right);
    })
