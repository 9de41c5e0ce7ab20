-- The third demand: "For any two accepted inputs, strings or matrices, written into enough room: they get the same form,
-- byte for byte, exactly when their matrices are equal. And no string over our seven letters, of any length whatever, with
-- that matrix holds fewer T's than the form." Strings, records and frames may be mixed. Assumes nothing.
use mathlib.Core.Path.{◌≡◌, sym, subst}
use mathlib.Core.List.{List}
use mathlib.Core.Logic.{◌↔◌}
use Prim.Native.Nat.{ℕ, ◌≤◌}
use Rattle.matrix.specs.declared.Matrix.{Matrix}
use Rattle.matrix.specs.Matrix.{Same}
use Rattle.matrix.specs.Letter.{matrix_of, Letters}
use Rattle.matrix.proofs.Same.{same_sym, same_trans}
use Rattle.form.specs.Count.{t_count}
use Rattle.answer.specs.declared.Figures.{Figures}
use Rattle.answer.specs.Refusal.{accepted}
use Rattle.demands.specs.Input.{Input, Promised, Accepted}
use Rattle.demands.specs.Answer.{form_in}
use Rattle.demands.proofs.Second.{form_has_the_matrix}
use Rattle.unique.proofs.Unique.{forms_are_unique}
use Rattle.extend_form.proofs.Exists.{form_exists}

-- "They get the same form, byte for byte, exactly when their matrices are equal."
pub same_form_exactly_when_same_matrix :
    {i j : Input} {m n : Matrix} {before before' after after' : List ℕ} {x y : Figures} →
    Accepted i m → Accepted j n → Promised i before (accepted x) after → Promised j before' (accepted y) after' →
    (form_in x after ≡ form_in y after') ↔ Same m n
same_form_exactly_when_same_matrix {m = m} {n = n} {after = after} {after' = after'} {x = x} {y = y} a b p q =
    let first = form_has_the_matrix a p in
    let second = form_has_the_matrix b q in (
      (λ (e : form_in x after ≡ form_in y after').
          same_trans (same_sym first.same) (subst (λ (g : List ℕ). Same (matrix_of g) n) (sym e) second.same)),
      (λ (s : Same m n).
          forms_are_unique (form_in x after) (form_in y after') first.form second.form
          (same_trans first.same (same_trans s (same_sym second.same)))),
    )

-- "No string over our seven letters, of any length whatever, with that matrix holds fewer T's than the form."
pub no_string_holds_fewer_ts :
    {i : Input} {m : Matrix} {before after : List ℕ} {x : Figures} →
    Accepted i m → Promised i before (accepted x) after →
    (v : List ℕ) → Letters v → Same (matrix_of v) m → x.tcount ≤ t_count v
no_string_holds_fewer_ts {m = m} {after = after} {x = x} a p v letters same =
    let is = form_has_the_matrix a p in
    let (f, is_form, fewer) = form_exists v letters in
    let e : f ≡ form_in x after = forms_are_unique f (form_in x after) is_form.form is.form (same_trans is_form.same (same_trans same (same_sym is.same))) in
    subst (λ (n : ℕ). n ≤ t_count v) (sym is.tcount) (subst (λ (g : List ℕ). t_count g ≤ t_count v) e fewer)
