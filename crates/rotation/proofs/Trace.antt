-- Half the trace of P-as-E(v) is the number of v along P. So the entry at row P, column Q of a text's rotation matrix is what the
-- text makes of the vector along Q, read along P, over as many √2 as the text has T's. Assumes nothing.
use mathlib.Core.Path.{◌≡◌, refl, ap, sym, ◌∙◌}
use mathlib.Core.List.{List, [], ◌∷◌}
use Prim.Native.Nat.{ℕ, ◌+◌}
use native.Mathlib.Omega.{arith}
use Rattle.algebra.proofs.Solver.{var, ◌⊕◌, ◌⊗◌, combine, given, done}
use Rattle.ring.specs.declared.Element.{Element}
use Rattle.ring.specs.Element.{nothing, one, omega2, sum, product, multiple, turned, negation, root2_power}
use Rattle.ring.proofs.Formal.{Formal, ◌+ᶠ◌, -ᶠ◌, parts_of}
use Rattle.ring.proofs.Ring.{elements}
use Rattle.ring.proofs.Root2.{root2_power_plus}
use Rattle.matrix.specs.declared.Matrix.{Matrix}
use Rattle.matrix.specs.Matrix.{times, adjoint, EqualOver, Same}
use Rattle.matrix.specs.Letter.{gate_X, gate_Y, gate_Z, matrix_of, Letters}
use Rattle.matrix.proofs.Same.{over_trans, same_of_equal, same_trans, same_times_left}
use Rattle.form.specs.Count.{t_count}
use Rattle.rotation.specs.Rotation.{Axis, axis_X, axis_Y, axis_Z, axis_gate, row_column, trace}
use Rattle.matrix.proofs.FormalMatrix.{FormalMatrix, formal_matrix, timesᶠ, oneᶠ, nothingᶠ, omega2ᶠ, over_alike}
use Rattle.ring.specs.declared.Vector.{Vector}
use Rattle.ring.specs.Real.{real}
use Rattle.rotation.specs.Vector.{at, unit, along, text_rotated}
use Rattle.rotation.proofs.Rotated.{xʳ, yʳ, zʳ, alongᶠ, text_rotates}

abbrev traceᶠ : FormalMatrix → Formal
traceᶠ m = m.tl +ᶠ m.br

-- the half is two more powers of √2
half_trace_along : (t : ℕ) (v : Vector) (p : Axis) →
    EqualOver ((times (axis_gate p) (along t v)).exponent + 2) t (trace (times (axis_gate p) (along t v))) (real (at v p))
unfolding axis_gate gate_X gate_Y gate_Z trace times along at real one nothing omega2 negation product sum multiple turned
half_trace_along t v axis_X =
    over_alike 0 2 (0 + t + 2) t (omega arith) (parts_of v)
    (traceᶠ (timesᶠ (formal_matrix nothingᶠ oneᶠ oneᶠ nothingᶠ) (alongᶠ xʳ yʳ zʳ))) xʳ tt
half_trace_along t v axis_Y =
    over_alike 0 2 (0 + t + 2) t (omega arith) (parts_of v)
    (traceᶠ (timesᶠ (formal_matrix nothingᶠ (-ᶠ omega2ᶠ) omega2ᶠ nothingᶠ) (alongᶠ xʳ yʳ zʳ))) yʳ tt
half_trace_along t v axis_Z =
    over_alike 0 2 (0 + t + 2) t (omega arith) (parts_of v)
    (traceᶠ (timesᶠ (formal_matrix oneᶠ nothingᶠ nothingᶠ (-ᶠ oneᶠ)) (alongᶠ xʳ yʳ zʳ))) zʳ tt

-- matrices that mean the same have the same half trace
pub half_trace_same : {m n : Matrix} → Same m n → EqualOver (m.exponent + 2) (n.exponent + 2) (trace m) (trace n)
unfolding EqualOver trace
half_trace_same {m} {n} s =
    ap (λ (r : Element). product r (trace m)) (root2_power_plus n.exponent 2)
    ∙ combine elements
    (root2_power m.exponent ∷ root2_power n.exponent ∷ root2_power 2 ∷ m.top.left ∷ m.bottom.right ∷ n.top.left ∷ n.bottom.right ∷ [])
    (given (var 2) (var 1 ⊗ var 3) (var 0 ⊗ var 5) s.top_left (given (var 2) (var 1 ⊗ var 4) (var 0 ⊗ var 6) s.bottom_right done))
    ((var 1 ⊗ var 2) ⊗ (var 3 ⊕ var 4)) ((var 0 ⊗ var 2) ⊗ (var 5 ⊕ var 6)) tt
    ∙ ap (λ (r : Element). product r (trace n)) (sym (root2_power_plus m.exponent 2))

half_trace : (m : Matrix) (t : ℕ) (v : Vector) (p : Axis) →
    Same m (times (axis_gate p) (along t v)) → EqualOver (m.exponent + 2) t (trace m) (real (at v p))
half_trace m t v p s =
    let n = times (axis_gate p) (along t v) in
    over_trans (m.exponent + 2) (n.exponent + 2) t (trace m) (trace n) (real (at v p)) (half_trace_same s) (half_trace_along t v p)

-- ---- entries of a text's rotation matrix
axis_along : (q : Axis) → axis_gate q ≡ along 0 (unit q)
unfolding axis_gate gate_X gate_Y gate_Z along unit real one nothing omega2 negation product sum multiple turned
axis_along axis_X = refl
axis_along axis_Y = refl
axis_along axis_Z = refl

pub text_entry : {w : List ℕ} → Letters w → (p q : Axis) →
    EqualOver ((row_column (matrix_of w) p q).exponent + 2) (t_count w) (trace (row_column (matrix_of w) p q)) (real (at (text_rotated w (unit q)) p))
unfolding row_column
text_entry {w} letters p q =
    half_trace _ (t_count w) (text_rotated w (unit q)) p
    (same_times_left (axis_gate p)
    (same_trans (same_of_equal (ap (λ (e : Matrix). times (matrix_of w) (times e (adjoint (matrix_of w)))) (axis_along q)))
    (text_rotates letters (unit q))))
