-- What uniqueness gives letter lists of any length, with the existence of forms: a letter list has one form, a form is its own,
-- two letter lists have the same form exactly when their matrices are equal, phase included, and no letter list with a form's
-- matrix holds fewer T's than the form. Assumes nothing.
use mathlib.Core.Path.{◌≡◌, ap, subst}
use mathlib.Core.List.{List}
use mathlib.Core.Logic.{◌↔◌}
use Prim.Native.Nat.{ℕ, ◌≤◌}
use Rattle.matrix.specs.Matrix.{Same}
use Rattle.matrix.specs.Letter.{Letters, matrix_of}
use Rattle.matrix.proofs.Same.{same_refl, same_of_equal, same_sym, same_trans}
use Rattle.form.specs.Form.{Form, FormOf}
use Rattle.form.specs.Count.{t_count}
use Rattle.extend_form.proofs.Exists.{form_exists}
use Rattle.unique.proofs.Unique.{forms_are_unique}

-- letter lists with the same matrix have the same form
pub same_matrix_same_form : {v w f g : List ℕ} → FormOf v f → FormOf w g → Same (matrix_of v) (matrix_of w) → f ≡ g
same_matrix_same_form {v} {w} {f} {g} a b same =
    forms_are_unique f g a.form b.form (same_trans a.same (same_trans same (same_sym b.same)))

-- a letter list has one form
pub form_of_is_unique : {w f g : List ℕ} → FormOf w f → FormOf w g → f ≡ g
form_of_is_unique {w} a b = same_matrix_same_form a b (same_refl (matrix_of w))

-- a form normalises to itself
pub form_normalises_to_itself : {f g : List ℕ} → FormOf f g → Form f → g ≡ f
form_normalises_to_itself {f} a form = form_of_is_unique a (record { form = form; same = same_refl (matrix_of f) })

-- "two letter lists have the same form exactly when their matrices are equal"
pub same_form_exactly_when_same_matrix : {v w f g : List ℕ} → FormOf v f → FormOf w g → (f ≡ g) ↔ Same (matrix_of v) (matrix_of w)
same_form_exactly_when_same_matrix {v} {w} {f} {g} a b =
    (λ e. same_trans (same_sym a.same) (same_trans (same_of_equal (ap matrix_of e)) b.same), same_matrix_same_form a b)

-- no letter list with that matrix holds fewer T's
pub no_fewer_ts : {v w f : List ℕ} → Letters v → FormOf w f → Same (matrix_of v) (matrix_of w) → t_count f ≤ t_count v
no_fewer_ts {v} letters a same =
    let (g, b, no_more) = form_exists v letters in
    subst (λ (text : List ℕ). t_count text ≤ t_count v) (same_matrix_same_form b a same) no_more
