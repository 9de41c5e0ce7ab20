-- What a letter's matrix does to a record from the left: H adds and subtracts the rows, X exchanges them, and a diagonal
-- matrix, as S, T and W have, multiplies each. Assumes nothing.
use Prim.Native.Nat.{ℕ}
use native.Mathlib.Nat.{add_comm, zero-add}
use mathlib.Core.List.{[], ◌∷◌}
use mathlib.Core.Path.{◌≡◌, refl, sym, ◌∙◌}
use mathlib.Core.Logic.{◌⊎◌, inl, inr}
use lib.IntN.{pos}
use Rattle.algebra.proofs.Solver.{var, con, ◌⊕◌, ◌⊗◌, ⊖◌, solve}
use Rattle.ring.specs.declared.Element.{Element}
use Rattle.ring.specs.Element.{element, nothing, one, omega as ω, omega2, sum, negation, product}
use Rattle.ring.proofs.Ring.{elements}
use Rattle.matrix.specs.declared.Matrix.{Matrix}
use Rattle.matrix.specs.Matrix.{matrix, times}
use Rattle.matrix.specs.Letter.{H, S, T, W, X, gate, gate_H, gate_S, gate_T, gate_W, gate_X}
use Rattle.matrix.proofs.Entries.{equal_entries}
use Rattle.form.specs.Form.{FormLetter, letter_H, letter_S, letter_T, letter_W, letter_X}
use Rattle.complete.specs.Descent.{record_without_H, record_without_X}
use Rattle.complete.proofs.Turn.{difference_sum}

-- rows of a gate times a column
upper : (w x y : Element) → sum (product w x) (product nothing y) ≡ product w x
upper w x y = solve elements (w ∷ x ∷ y ∷ []) (var 0 ⊗ var 1 ⊕ con (pos 0) ⊗ var 2) (var 0 ⊗ var 1) tt

lower : (w x y : Element) → sum (product nothing x) (product w y) ≡ product w y
lower w x y = solve elements (w ∷ x ∷ y ∷ []) (con (pos 0) ⊗ var 1 ⊕ var 0 ⊗ var 2) (var 0 ⊗ var 2) tt

once : (x : Element) → product one x ≡ x
once x = solve elements (x ∷ []) (con (pos 1) ⊗ var 0) (var 0) tt

added : (x y : Element) → sum (product one x) (product one y) ≡ sum x y
added x y = solve elements (x ∷ y ∷ []) (con (pos 1) ⊗ var 0 ⊕ con (pos 1) ⊗ var 1) (var 0 ⊕ var 1) tt

subtracted : (x y : Element) → sum (product one x) (product (negation one) y) ≡ sum x (negation y)
subtracted x y = solve elements (x ∷ y ∷ []) (con (pos 1) ⊗ var 0 ⊕ ⊖ con (pos 1) ⊗ var 1) (var 0 ⊕ ⊖ var 1) tt

-- H and X put in front of a record: what taking them off gives, for they are their own inverses
pub H_times : (m : Matrix) → record_without_H m ≡ times gate_H m
unfolding times gate_H record_without_H
H_times m =
    equal_entries (add_comm m.exponent 1) (sym (added m.top.left m.bottom.left)) (sym (added m.top.right m.bottom.right))
    (difference_sum m.top.left m.bottom.left ∙ sym (subtracted m.top.left m.bottom.left))
    (difference_sum m.top.right m.bottom.right ∙ sym (subtracted m.top.right m.bottom.right))

pub X_times : (m : Matrix) → record_without_X m ≡ times gate_X m
unfolding times gate_X record_without_X
X_times m =
    sym (equal_entries (zero-add m.exponent)
    (lower one m.top.left m.bottom.left ∙ once m.bottom.left) (lower one m.top.right m.bottom.right ∙ once m.bottom.right)
    (upper one m.top.left m.bottom.left ∙ once m.top.left) (upper one m.top.right m.bottom.right ∙ once m.top.right))

-- a diagonal matrix multiplies row by row
pub diagonal_times : (u w : Element) (m : Matrix) {p q r s : Element} →
    p ≡ product u m.top.left → q ≡ product u m.top.right → r ≡ product w m.bottom.left → s ≡ product w m.bottom.right →
    matrix m.exponent p q r s ≡ times (matrix 0 u nothing nothing w) m
unfolding times
diagonal_times u w m ep eq er es =
    equal_entries (sym (zero-add m.exponent))
    (ep ∙ sym (upper u m.top.left m.bottom.left)) (eq ∙ sym (upper u m.top.right m.bottom.right))
    (er ∙ sym (lower w m.top.left m.bottom.left)) (es ∙ sym (lower w m.top.right m.bottom.right))

-- a letter of a form is one of five bytes
pub five_letters : {b : ℕ} → FormLetter b → (b ≡ H) ⊎ ((b ≡ S) ⊎ ((b ≡ T) ⊎ ((b ≡ W) ⊎ (b ≡ X))))
five_letters letter_H = inl refl
five_letters letter_S = inr (inl refl)
five_letters letter_T = inr (inr (inl refl))
five_letters letter_W = inr (inr (inr (inl refl)))
five_letters letter_X = inr (inr (inr (inr refl)))

-- each has its product, as its branch computes it
pub prefixed_H : {b : ℕ} (m : Matrix) {r : Matrix} → b ≡ H → r ≡ record_without_H m → r ≡ times (gate b) m
unfolding gate
prefixed_H m is e = rw is (e ∙ H_times m)

pub prefixed_S : {b : ℕ} (m : Matrix) {r : Matrix} → b ≡ S →
    r ≡ times (matrix 0 (element (pos 1) (pos 0) (pos 0) (pos 0)) nothing nothing (element (pos 0) (pos 0) (pos 1) (pos 0))) m →
    r ≡ times (gate b) m
unfolding gate gate_S one omega2
prefixed_S m is e = rw is e

pub prefixed_T : {b : ℕ} (m : Matrix) {r : Matrix} → b ≡ T →
    r ≡ times (matrix 0 (element (pos 1) (pos 0) (pos 0) (pos 0)) nothing nothing (element (pos 0) (pos 1) (pos 0) (pos 0))) m →
    r ≡ times (gate b) m
unfolding gate gate_T one ω
prefixed_T m is e = rw is e

pub prefixed_W : {b : ℕ} (m : Matrix) {r : Matrix} → b ≡ W →
    r ≡ times (matrix 0 (element (pos 0) (pos 1) (pos 0) (pos 0)) nothing nothing (element (pos 0) (pos 1) (pos 0) (pos 0))) m →
    r ≡ times (gate b) m
unfolding gate gate_W ω
prefixed_W m is e = rw is e

pub prefixed_X : {b : ℕ} (m : Matrix) {r : Matrix} → b ≡ X → r ≡ record_without_X m → r ≡ times (gate b) m
unfolding gate
prefixed_X m is e = rw is (e ∙ X_times m)

-- a letter's product, by which byte it is
pub ruleset letter_products = (five_letters, prefixed_H, prefixed_S, prefixed_T, prefixed_W, prefixed_X)
