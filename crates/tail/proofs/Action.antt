-- What a letter does on the right of a matrix: it swaps, turns, negates or adds columns. So the matrix of a text is found
-- with no product of elements, letter by letter from the identity, and a test may compute it. Assumes nothing.
use mathlib.Core.Path.{◌≡◌, refl, ap, sym, ◌∙◌}
use mathlib.Core.Bool.{Bool, true, false, cond}
use mathlib.Core.List.{List, [], ◌∷◌}
use Prim.Native.Nat.{ℕ, ◌+◌}
use native.Mathlib.Nat.{add-zero}
use lib.Dec.{eqb}
use lib.IntN.{pos}
use Rattle.algebra.proofs.Solver.{var, con, ◌⊕◌, ◌⊗◌, ⊖◌, solve}
use Rattle.ring.specs.declared.Element.{Element}
use Rattle.ring.specs.Element.{nothing, one, omega, omega2, sum, negation, multiple, turned, product}
use Rattle.ring.proofs.Ring.{elements, product_one}
use Rattle.ring.proofs.Formal.{formal, ◌*ᶠ◌, turnedᶠ, xᶠ, coefficients, coefficientwise}
use Rattle.matrix.specs.declared.Matrix.{Matrix}
use Rattle.matrix.specs.Matrix.{matrix, identity, times}
use Rattle.matrix.specs.Letter.{H, S, T, W, X, Y, Z, gate_H, gate_S, gate_T, gate_W, gate_X, gate_Y, gate_Z, gate, matrix_of}
use Rattle.matrix.proofs.Entries.{equal_entries}
use Rattle.matrix.proofs.Times.{times_assoc, times_identity, identity_times}

-- ω and ω² as factors turn, −1 and −ω² negate
times_omega : (x : Element) → product x omega ≡ turned x
unfolding product sum multiple turned omega
times_omega x =
    coefficientwise (coefficients (x ∷ [])) (xᶠ *ᶠ formal (con (pos 0)) (con (pos 1)) (con (pos 0)) (con (pos 0))) (turnedᶠ xᶠ)
    (tt, tt, tt, tt)

times_omega2 : (x : Element) → product x omega2 ≡ turned (turned x)
unfolding product sum multiple turned omega2
times_omega2 x =
    coefficientwise (coefficients (x ∷ [])) (xᶠ *ᶠ formal (con (pos 0)) (con (pos 0)) (con (pos 1)) (con (pos 0)))
    (turnedᶠ (turnedᶠ xᶠ)) (tt, tt, tt, tt)

times_negation : (x u : Element) → product x (negation u) ≡ negation (product x u)
times_negation x u = solve elements (x ∷ u ∷ []) (var 0 ⊗ ⊖ var 1) (⊖ (var 0 ⊗ var 1)) tt

-- each column by a rule of its own
kept_columns : (Element → Element) → (Element → Element) → Matrix → Matrix
kept_columns f g m = matrix m.exponent (f m.top.left) (g m.top.right) (f m.bottom.left) (g m.bottom.right)

-- the same after the columns are swapped
swapped_columns : (Element → Element) → (Element → Element) → Matrix → Matrix
swapped_columns f g m = matrix m.exponent (f m.top.right) (g m.top.left) (f m.bottom.right) (g m.bottom.left)

-- a row times the columns of a diagonal matrix and of one with zeros on its diagonal
first_factor : (a b u v : Element) → product a u ≡ v → v ≡ sum (product a u) (product b nothing)
first_factor a b u v e = sym e ∙ solve elements (a ∷ b ∷ u ∷ []) (var 0 ⊗ var 2) (var 0 ⊗ var 2 ⊕ var 1 ⊗ con (pos 0)) tt

second_factor : (a b u v : Element) → product b u ≡ v → v ≡ sum (product a nothing) (product b u)
second_factor a b u v e = sym e ∙ solve elements (a ∷ b ∷ u ∷ []) (var 1 ⊗ var 2) (var 0 ⊗ con (pos 0) ⊕ var 1 ⊗ var 2) tt

diagonal_factor :
    (u v : Element) (f g : Element → Element) → ((x : Element) → product x u ≡ f x) → ((x : Element) → product x v ≡ g x) →
    (m : Matrix) → kept_columns f g m ≡ times m (matrix 0 u nothing nothing v)
unfolding kept_columns times
diagonal_factor u v f g e d m =
    equal_entries (sym (add-zero m.exponent))
    (first_factor m.top.left m.top.right u (f m.top.left) (e m.top.left))
    (second_factor m.top.left m.top.right v (g m.top.right) (d m.top.right))
    (first_factor m.bottom.left m.bottom.right u (f m.bottom.left) (e m.bottom.left))
    (second_factor m.bottom.left m.bottom.right v (g m.bottom.right) (d m.bottom.right))

crossed_factor :
    (u v : Element) (f g : Element → Element) → ((x : Element) → product x u ≡ f x) → ((x : Element) → product x v ≡ g x) →
    (m : Matrix) → swapped_columns f g m ≡ times m (matrix 0 nothing v u nothing)
unfolding swapped_columns times
crossed_factor u v f g e d m =
    equal_entries (sym (add-zero m.exponent))
    (second_factor m.top.left m.top.right u (f m.top.right) (e m.top.right))
    (first_factor m.top.left m.top.right v (g m.top.left) (d m.top.left))
    (second_factor m.bottom.left m.bottom.right u (f m.bottom.right) (e m.bottom.right))
    (first_factor m.bottom.left m.bottom.right v (g m.bottom.left) (d m.bottom.left))

-- the seven letters
after_H : Matrix → Matrix
after_H m =
    matrix (m.exponent + 1)
    (sum m.top.left m.top.right) (sum m.top.left (negation m.top.right))
    (sum m.bottom.left m.bottom.right) (sum m.bottom.left (negation m.bottom.right))

after_S : Matrix → Matrix
after_S = kept_columns (λ x. x) (λ x. turned (turned x))

after_T : Matrix → Matrix
after_T = kept_columns (λ x. x) turned

after_W : Matrix → Matrix
after_W = kept_columns turned turned

after_X : Matrix → Matrix
after_X = swapped_columns (λ x. x) (λ x. x)

after_Y : Matrix → Matrix
after_Y = swapped_columns (λ x. turned (turned x)) (λ x. negation (turned (turned x)))

after_Z : Matrix → Matrix
after_Z = kept_columns (λ x. x) negation

columns_added : (a b : Element) → sum a b ≡ sum (product a one) (product b one)
columns_added a b = solve elements (a ∷ b ∷ []) (var 0 ⊕ var 1) (var 0 ⊗ con (pos 1) ⊕ var 1 ⊗ con (pos 1)) tt

columns_subtracted : (a b : Element) → sum a (negation b) ≡ sum (product a one) (product b (negation one))
columns_subtracted a b = solve elements (a ∷ b ∷ []) (var 0 ⊕ ⊖ var 1) (var 0 ⊗ con (pos 1) ⊕ var 1 ⊗ ⊖ con (pos 1)) tt

after_H_is_times : (m : Matrix) → after_H m ≡ times m gate_H
unfolding after_H times gate_H
after_H_is_times m =
    equal_entries refl
    (columns_added m.top.left m.top.right) (columns_subtracted m.top.left m.top.right)
    (columns_added m.bottom.left m.bottom.right) (columns_subtracted m.bottom.left m.bottom.right)

times_minus_one : (x : Element) → product x (negation one) ≡ negation x
times_minus_one x = times_negation x one ∙ ap negation (product_one x)

times_minus_omega2 : (x : Element) → product x (negation omega2) ≡ negation (turned (turned x))
times_minus_omega2 x = times_negation x omega2 ∙ ap negation (times_omega2 x)

-- a byte on the right of a matrix, by the tests of `gate`
after : Matrix → ℕ → Matrix
after m b =
    cond (eqb b H) (after_H m)
    (cond (eqb b S) (after_S m)
    (cond (eqb b T) (after_T m)
    (cond (eqb b W) (after_W m)
    (cond (eqb b X) (after_X m)
    (cond (eqb b Y) (after_Y m)
    (cond (eqb b Z) (after_Z m) m))))))

chosen : (t : Bool) (m p q p' q' : Matrix) → p ≡ times m p' → q ≡ times m q' → cond t p q ≡ times m (cond t p' q')
chosen true m p q p' q' e d = e
chosen false m p q p' q' e d = d

after_is_times : (m : Matrix) (b : ℕ) → after m b ≡ times m (gate b)
unfolding after gate after_S after_T after_W after_X after_Y after_Z gate_S gate_T gate_W gate_X gate_Y gate_Z
after_is_times m b =
    chosen (eqb b H) m _ _ _ _ (after_H_is_times m)
    (chosen (eqb b S) m _ _ _ _ (diagonal_factor one omega2 (λ x. x) (λ x. turned (turned x)) product_one times_omega2 m)
    (chosen (eqb b T) m _ _ _ _ (diagonal_factor one omega (λ x. x) turned product_one times_omega m)
    (chosen (eqb b W) m _ _ _ _ (diagonal_factor omega omega turned turned times_omega times_omega m)
    (chosen (eqb b X) m _ _ _ _ (crossed_factor one one (λ x. x) (λ x. x) product_one product_one m)
    (chosen (eqb b Y) m _ _ _ _ (crossed_factor omega2 (negation omega2) (λ x. turned (turned x)) (λ x. negation (turned (turned x))) times_omega2 times_minus_omega2 m)
    (chosen (eqb b Z) m _ _ _ _ (diagonal_factor one (negation one) (λ x. x) negation product_one times_minus_one m)
    (sym (times_identity m))))))))

-- a text on the right of a matrix
after_text : Matrix → List ℕ → Matrix
after_text m [] = m
after_text m (b ∷ s) = after_text (after m b) s

after_text_is_times : (m : Matrix) (s : List ℕ) → after_text m s ≡ times m (matrix_of s)
unfolding after_text matrix_of
after_text_is_times m [] = sym (times_identity m)
after_text_is_times m (b ∷ s) =
    after_text_is_times (after m b) s
    ∙ ap (λ (p : Matrix). times p (matrix_of s)) (after_is_times m b)
    ∙ times_assoc m (gate b) (matrix_of s)

-- the matrix of a text, computed from the left
unfoldable pub quick_matrix : List ℕ → Matrix
unfolding after_text after after_H after_S after_T after_W after_X after_Y after_Z kept_columns swapped_columns identity nothing one sum negation turned
quick_matrix s = after_text identity s

pub quick_matrix_is_matrix : (s : List ℕ) → quick_matrix s ≡ matrix_of s
unfolding quick_matrix
quick_matrix_is_matrix s = after_text_is_times identity s ∙ identity_times (matrix_of s)
