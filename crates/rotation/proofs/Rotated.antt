-- What a text does to a vector: with E(v) = xX + yY + zZ, each letter L makes L-as-E(v)·L† the matrix of another vector, over
-- one more √2 for a T, so the text w makes w·E(v)·w† the matrix of a vector over as many √2 as w has T's. Linear identities,
-- one test a letter. Assumes nothing.
use mathlib.Core.Path.{◌≡◌, ap, sym, ◌∙◌}
use mathlib.Core.Bool.{true, cond}
use mathlib.Core.List.{List}
use Prim.Native.Nat.{ℕ, suc, ◌+◌}
use native.Mathlib.Omega.{arith}
use lib.Dec.{eqb}
use Rattle.lists.specs.List.{none, more}
use Rattle.algebra.proofs.Solver.{var, ◌⊕◌, ⊖◌}
use Rattle.ring.specs.Element.{nothing, one, omega as ω, omega2, sum, product, multiple, turned, negation, conjugate}
use Rattle.ring.proofs.Formal.{Formal, ◌+ᶠ◌, -ᶠ◌, ◌*ᶠ◌, realᶠ, parts_of}
use Rattle.matrix.specs.declared.Matrix.{Matrix}
use Rattle.matrix.specs.Matrix.{identity, times, adjoint, Same}
use Rattle.matrix.specs.Letter.{H, S, T, W, X, Y, Z, gate, gate_H, gate_S, gate_T, gate_W, gate_X, gate_Y, gate_Z, matrix_of, is_letter, Letters}
use Rattle.matrix.proofs.Times.{times_assoc, identity_times, times_identity}
use Rattle.matrix.proofs.Same.{same_of_equal, same_trans, same_times_left, same_times_right}
use Rattle.matrix.proofs.Letter.{by_letter}
use Rattle.matrix.proofs.Adjoint.{adjoint_times, adjoint_identity}
use Rattle.matrix.proofs.FormalMatrix.{FormalMatrix, formal_matrix, timesᶠ, adjointᶠ, oneᶠ, nothingᶠ, omegaᶠ, omega2ᶠ, same_alike}
use Rattle.form.specs.Count.{t_count}
use Rattle.ring.specs.declared.Vector.{Vector}
use Rattle.ring.specs.Real.{real, negated}
use Rattle.rotation.specs.Vector.{added, subtracted, by_root2, along, rotated, text_rotated}

-- ---- formal numbers and vectors
-- the numbers of a vector
abbrev pub xʳ : Formal
xʳ = realᶠ (var 0) (var 1)

abbrev pub yʳ : Formal
yʳ = realᶠ (var 2) (var 3)

abbrev pub zʳ : Formal
zʳ = realᶠ (var 4) (var 5)

abbrev pub alongᶠ : Formal → Formal → Formal → FormalMatrix
alongᶠ x y z = formal_matrix z (x +ᶠ (-ᶠ (omega2ᶠ *ᶠ y))) (x +ᶠ omega2ᶠ *ᶠ y) (-ᶠ z)

-- ---- the letters
-- g·E(x, y, z)·g†
abbrev aroundᶠ : FormalMatrix → FormalMatrix
aroundᶠ g = timesᶠ g (timesᶠ (alongᶠ xʳ yʳ zʳ) (adjointᶠ g))

-- a letter makes the matrix of one vector that of another
abbrev Rotates : ℕ → Type 0
Rotates b =
    (t : ℕ) (v : Vector) →
    Same (times (gate b) (times (along t v) (adjoint (gate b)))) (along (cond (eqb b T) (suc t) t) (rotated b v))

rotates_H : Rotates H
unfolding gate gate_H rotated times adjoint along real negated conjugate one omega2 negation product sum multiple turned
rotates_H t v =
    same_alike 0 2 (1 + (t + 1)) t (omega arith) (parts_of v)
    (aroundᶠ (formal_matrix oneᶠ oneᶠ oneᶠ (-ᶠ oneᶠ))) (alongᶠ zʳ (realᶠ (⊖ var 2) (⊖ var 3)) xʳ) tt

rotates_S : Rotates S
unfolding gate gate_S rotated times adjoint along real negated conjugate one nothing omega2 negation product sum multiple turned
rotates_S t v =
    same_alike 0 0 (0 + (t + 0)) t (omega arith) (parts_of v)
    (aroundᶠ (formal_matrix oneᶠ nothingᶠ nothingᶠ omega2ᶠ)) (alongᶠ (realᶠ (⊖ var 2) (⊖ var 3)) xʳ zʳ) tt

rotates_T : Rotates T
unfolding gate gate_T rotated times adjoint along real added subtracted by_root2 conjugate one nothing ω omega2 negation product sum multiple turned
rotates_T t v =
    same_alike 1 0 (0 + (t + 0)) (suc t) (omega arith) (parts_of v)
    (aroundᶠ (formal_matrix oneᶠ nothingᶠ nothingᶠ omegaᶠ))
    (alongᶠ (realᶠ (var 0 ⊕ ⊖ var 2) (var 1 ⊕ ⊖ var 3)) (realᶠ (var 0 ⊕ var 2) (var 1 ⊕ var 3)) (realᶠ (var 5 ⊕ var 5) (var 4))) tt

rotates_W : Rotates W
unfolding gate gate_W rotated times adjoint along real conjugate nothing ω omega2 negation product sum multiple turned
rotates_W t v =
    same_alike 0 0 (0 + (t + 0)) t (omega arith) (parts_of v)
    (aroundᶠ (formal_matrix omegaᶠ nothingᶠ nothingᶠ omegaᶠ)) (alongᶠ xʳ yʳ zʳ) tt

rotates_X : Rotates X
unfolding gate gate_X rotated times adjoint along real negated conjugate one nothing omega2 negation product sum multiple turned
rotates_X t v =
    same_alike 0 0 (0 + (t + 0)) t (omega arith) (parts_of v)
    (aroundᶠ (formal_matrix nothingᶠ oneᶠ oneᶠ nothingᶠ)) (alongᶠ xʳ (realᶠ (⊖ var 2) (⊖ var 3)) (realᶠ (⊖ var 4) (⊖ var 5))) tt

rotates_Y : Rotates Y
unfolding gate gate_Y rotated times adjoint along real negated conjugate nothing omega2 negation product sum multiple turned
rotates_Y t v =
    same_alike 0 0 (0 + (t + 0)) t (omega arith) (parts_of v)
    (aroundᶠ (formal_matrix nothingᶠ (-ᶠ omega2ᶠ) omega2ᶠ nothingᶠ)) (alongᶠ (realᶠ (⊖ var 0) (⊖ var 1)) yʳ (realᶠ (⊖ var 4) (⊖ var 5))) tt

rotates_Z : Rotates Z
unfolding gate gate_Z rotated times adjoint along real negated conjugate one nothing omega2 negation product sum multiple turned
rotates_Z t v =
    same_alike 0 0 (0 + (t + 0)) t (omega arith) (parts_of v)
    (aroundᶠ (formal_matrix oneᶠ nothingᶠ nothingᶠ (-ᶠ oneᶠ))) (alongᶠ (realᶠ (⊖ var 0) (⊖ var 1)) (realᶠ (⊖ var 2) (⊖ var 3)) zʳ) tt

pub letter_rotates : (b : ℕ) → is_letter b ≡ true → Rotates b
letter_rotates b = by_letter Rotates b rotates_H rotates_S rotates_T rotates_W rotates_X rotates_Y rotates_Z

-- ---- from letters to texts
-- (g·a)·e·(g·a)† is g·(a·e·a†)·g†
pub around_product : (g a e : Matrix) →
    times (times g a) (times e (adjoint (times g a))) ≡ times g (times (times a (times e (adjoint a))) (adjoint g))
around_product g a e =
    times_assoc g a (times e (adjoint (times g a)))
    ∙ ap (times g)
    (ap (λ (d : Matrix). times a (times e d)) (adjoint_times g a)
    ∙ ap (times a) (sym (times_assoc e (adjoint a) (adjoint g)))
    ∙ sym (times_assoc a (times e (adjoint a)) (adjoint g)))

around_identity : (e : Matrix) → times identity (times e (adjoint identity)) ≡ e
around_identity e = identity_times (times e (adjoint identity)) ∙ ap (times e) adjoint_identity ∙ times_identity e

-- w·E(v)·w† is the matrix of a vector, over as many √2 as w has T's
pub text_rotates : {w : List ℕ} → Letters w → (v : Vector) →
    Same (times (matrix_of w) (times (along 0 v) (adjoint (matrix_of w)))) (along (t_count w) (text_rotated w v))
unfolding matrix_of t_count text_rotated
text_rotates none v = same_of_equal (around_identity (along 0 v))
text_rotates (more {a = b} {s} letter letters) v =
    same_trans (same_of_equal (around_product (gate b) (matrix_of s) (along 0 v)))
    (same_trans (same_times_left (gate b) (same_times_right (adjoint (gate b)) (text_rotates letters v)))
    (letter_rotates b letter (t_count s) (text_rotated s v)))
