-- How large the places of refusals and the lengths of forms can be: a place lies within its text, its array or its frame;
-- the form of an accepted string is within the form limit, and so is that of an accepted record. Assumes nothing.
use Prim.Native.Nat.{ℕ, ◌≤◌, ◌<◌}
use native.Mathlib.Omega.{arith}
use mathlib.Core.List.{List}
use lib.ListN.{length}
use Rattle.lists.proofs.List.{fails_within}
use Rattle.matrix.specs.declared.Matrix.{Matrix}
use Rattle.matrix.specs.Matrix.{Same}
use Rattle.matrix.specs.Letter.{matrix_of}
use Rattle.matrix.proofs.Same.{same_refl, same_sym, same_trans}
use Rattle.form.specs.Form.{Form, FormOf}
use Rattle.answer.specs.Limits.{form_limit, frame_length}
use Rattle.alphabet.specs.String.{AcceptedString}
use Rattle.coefficients.specs.Coefficients.{coefficients}
use Rattle.accept_record.specs.Accept.{FirstWide, AcceptedRecord}
use Rattle.frame.specs.Calls.{IsBadFrame}
use Rattle.extend_form.proofs.Exists.{form_length}
use Rattle.form.proofs.Count.{t_count_within}
use Rattle.unique.proofs.Normal.{no_fewer_ts}
use Rattle.complete.proofs.Complete.{complete}

-- "index 0 to 15"
pub wide_coefficient_within : (m : Matrix) {i : ℕ} → FirstWide (coefficients m) i → i < 16
unfolding coefficients
wide_coefficient_within m wide = fails_within wide

pub bad_frame_within : {text : List ℕ} {p : ℕ} → IsBadFrame text p → p ≤ frame_length
bad_frame_within (IsBadFrame.short h) = omega arith
bad_frame_within (IsBadFrame.long h) = omega arith
bad_frame_within (IsBadFrame.bad_digit e bad) = omega (arith, fails_within bad)

-- "forms reach at most 12,301 bytes"
pub form_of_string_within : {text f : List ℕ} → AcceptedString text → FormOf text f → length f ≤ form_limit
form_of_string_within {text} {f} accepted of =
    let within = accepted.within in
    omega (arith, form_length of.form, no_fewer_ts accepted.letters of (same_refl (matrix_of text)), t_count_within text)

-- a record's form has at most 2k + 1 T's, as the letter list has that completeness gives
pub form_of_record_within : {m : Matrix} {f : List ℕ} → AcceptedRecord m → Form f → Same (matrix_of f) m → length f ≤ form_limit
form_of_record_within {m} {f} accepted form same =
    let (w, letters, means, few) = complete m accepted.unitary in
    let normal : FormOf f f = record { form = form; same = same_refl (matrix_of f) } in
    let low = accepted.inside.exponent in
    omega (arith, form_length form, no_fewer_ts letters normal (same_trans means (same_sym same)))
