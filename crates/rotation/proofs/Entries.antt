-- The entries of rotation matrices: a text's are whole a and b over as many √2 as it has T's; over one exponent the numerators are
-- unique, over a higher one than is needed they are even, and the least exponent is unique. Matrices that mean the same have the
-- same rotation matrix. Assumes nothing.
use mathlib.Core.Path.{◌≡◌, ap, sym, ◌∙◌, subst}
use mathlib.Core.Bool.{false}
use mathlib.Core.List.{List}
use Prim.Native.Nat.{ℕ, ◌+◌, ◌<◌}
use native.Mathlib.Nat.{le_antisymm}
use Rattle.algebra.specs.Parity.{odd}
use Rattle.ring.specs.Element.{product, root2_power}
use Rattle.ring.proofs.Root2.{root2_power_cancel}
use Rattle.matrix.specs.declared.Matrix.{Matrix}
use Rattle.matrix.specs.Matrix.{times, adjoint, EqualOver, Same}
use Rattle.matrix.specs.Letter.{matrix_of, Letters}
use Rattle.matrix.proofs.Same.{over_sym, over_trans, same_sym, same_times, same_times_left}
use Rattle.form.specs.Count.{t_count}
use Rattle.rotation.specs.Rotation.{Axis, axis_gate, row_column, trace, surd, Entry, Entries, LeastExponent, RowZero}
use Rattle.matrix.proofs.Adjoint.{same_adjoint}
use Rattle.rotation.specs.Vector.{at, unit, text_rotated}
use Rattle.rotation.proofs.Parity.{higher_is_even}
use Rattle.rotation.proofs.Trace.{half_trace_same, text_entry}
use Rattle.rotation.proofs.Surd.{odd_surd, surd_whole, real_is_surd}

-- over as many √2 as a text has T's each entry is a + b√2 with whole a and b
unfoldable pub text_entries : {w : List ℕ} → Letters w → Entries (matrix_of w) (t_count w)
unfolding Entry
text_entries {w} letters = record {
  a = λ p q. (at (text_rotated w (unit q)) p).whole;
  b = λ p q. (at (text_rotated w (unit q)) p).root2;
  entry = λ p q.
      subst (EqualOver ((row_column (matrix_of w) p q).exponent + 2) (t_count w) (trace (row_column (matrix_of w) p q)))
      (real_is_surd (at (text_rotated w (unit q)) p)) (text_entry letters p q);
}

-- entries of one matrix over two exponents are equal over them
entries_agree : {u : Matrix} {m n : ℕ} (e : Entries u m) (f : Entries u n) (p q : Axis) →
    EqualOver m n (surd (e.a p q) (e.b p q)) (surd (f.a p q) (f.b p q))
unfolding Entry
entries_agree {u} {m} {n} e f p q =
    let k = (row_column u p q).exponent + 2 in
    let x = trace (row_column u p q) in
    let y = surd (e.a p q) (e.b p q) in
    over_trans m k n y x (surd (f.a p q) (f.b p q)) (over_sym k m x y (e.entry p q)) (f.entry p q)

-- over a higher exponent than is needed every entry is even
pub higher_entries : {u : Matrix} {m n : ℕ} (e : Entries u m) (f : Entries u n) → m < n → (p q : Axis) → odd (f.a p q) ≡ false
higher_entries {u} {m} {n} e f less p q =
    sym (odd_surd (f.a p q) (f.b p q))
    ∙ higher_is_even m n (surd (e.a p q) (e.b p q)) (surd (f.a p q) (f.b p q)) (entries_agree e f p q) less

-- over one exponent the numerators are the same
pub same_entries : {u : Matrix} {m n : ℕ} → m ≡ n → (e : Entries u m) (f : Entries u n) (p q : Axis) → e.a p q ≡ f.a p q
unfolding EqualOver
same_entries {u} {m} {n} exponents e f p q =
    let x = surd (e.a p q) (e.b p q) in
    let y = surd (f.a p q) (f.b p q) in
    surd_whole (e.a p q) (e.b p q) (f.a p q) (f.b p q)
    (root2_power_cancel n x y (entries_agree e f p q ∙ ap (λ (k : ℕ). product (root2_power k) y) exponents))

-- a matrix has one least exponent
pub least_exponent_unique : {u : Matrix} {m n : ℕ} → LeastExponent u m → LeastExponent u n → m ≡ n
least_exponent_unique {u} {m} {n} e f = le_antisymm (e.smallest n f.entries) (f.smallest m e.entries)

-- matrices that mean the same have the same rotation matrix, entry by entry
pub entries_of_same : {u v : Matrix} → Same u v → {m : ℕ} → Entries u m → Entries v m
unfolding Entry row_column
entries_of_same {u} {v} s {m} e = record {
  a = e.a;
  b = e.b;
  entry = λ p q.
      let x = times (axis_gate p) (times u (times (axis_gate q) (adjoint u))) in
      let y = times (axis_gate p) (times v (times (axis_gate q) (adjoint v))) in
      let around : Same y x = same_sym (same_times_left (axis_gate p) (same_times s (same_times_left (axis_gate q) (same_adjoint s)))) in
      over_trans (y.exponent + 2) (x.exponent + 2) m (trace y) (trace x) (surd (e.a p q) (e.b p q))
      (half_trace_same around) (e.entry p q);
}

pub least_exponent_of_same : {u v : Matrix} → Same u v → {m : ℕ} → LeastExponent u m → LeastExponent v m
least_exponent_of_same s least = record {
  entries = entries_of_same s least.entries;
  smallest = λ n e. least.smallest n (entries_of_same (same_sym s) e);
}

pub row_zero_of_same : {u v : Matrix} (s : Same u v) {m : ℕ} (least : LeastExponent u m) (row : Axis) →
    RowZero least row → RowZero (least_exponent_of_same s least) row
unfolding RowZero least_exponent_of_same entries_of_same
row_zero_of_same s least row even = even

pub row_zero_from_same : {u v : Matrix} (s : Same u v) {m : ℕ} (least : LeastExponent u m) (row : Axis) →
    RowZero (least_exponent_of_same s least) row → RowZero least row
unfolding RowZero least_exponent_of_same entries_of_same
row_zero_from_same s least row even = even
