-- A string whose form holds many T's has a high least exponent: a record with exponent k has a letter list with at most
-- 2k + 1 T's, and the form has no more. A form with few T's is answered by its least record, and a string is expanded as its
-- form is. Assumes nothing.
use Prim.Native.Nat.{ℕ, ◌+◌, ◌*◌, ◌≤◌, ◌<◌}
use native.Mathlib.Omega.{arith}
use mathlib.Core.List.{List}
use mathlib.Core.Path.{◌≡◌, subst}
use Rattle.matrix.specs.declared.Matrix.{Matrix}
use Rattle.matrix.specs.Matrix.{LeastRecord}
use Rattle.matrix.specs.Letter.{Letters, matrix_of}
use Rattle.matrix.proofs.Same.{same_sym, same_trans}
use Rattle.matrix.proofs.Unitary.{unitary_same, unitary_matrix_of}
use Rattle.matrix.proofs.Least.{least_exists}
use Rattle.form.specs.Form.{Form, FormOf}
use Rattle.form.specs.Count.{t_count}
use Rattle.form.proofs.Spelled.{form_is_letters}
use Rattle.answer.specs.declared.Refusal.TheVariants.{HighLeastExponent}
use Rattle.answer.specs.Refusal.{Said, accepted as answered, refusal}
use Rattle.answer.specs.Limits.{exponent_limit}
use Rattle.alphabet.specs.String.{AcceptedString}
use Rattle.alphabet.proofs.String.{string_refused_or_accepted}
use Rattle.extend_form.proofs.Exists.{form_length}
use Rattle.unique.proofs.Normal.{no_fewer_ts}
use Rattle.complete.proofs.Complete.{complete}
use Rattle.string_to_matrix.specs.Promise.{StringToMatrix, refused_string, high_least_exponent, least_record}
use Rattle.string_to_matrix.specs.Room.{t_limit}

-- "A matrix's form has T-count at most 2k + 1."
pub t_count_by_least_exponent : {text f : List ℕ} {m : Matrix} → Letters text → FormOf text f → LeastRecord (matrix_of text) m → t_count f ≤ 2 * m.exponent + 1
t_count_by_least_exponent {text} {f} {m} letters form l =
    let (w, w_letters, same, few) = complete m (unitary_same l.same (unitary_matrix_of text letters)) in
    omega (arith, few, no_fewer_ts w_letters form (same_trans same (same_sym l.same)))

-- a form with many T's: refusal 8
pub many_T's : {text f : List ℕ} → AcceptedString text → FormOf text f → t_limit < t_count f → StringToMatrix text (refusal HighLeastExponent)
many_T's {text} accepted form many =
    let (m, l) = least_exists (matrix_of text) in
    high_least_exponent accepted l (omega (arith, t_count_by_least_exponent accepted.letters form l))

-- a form with few T's is within the string limit
pub short_form : {f : List ℕ} → Form f → t_count f ≤ t_limit → AcceptedString f
short_form form few = record { within = omega (arith, form_length form); letters = form_is_letters form }

-- a string is expanded as its form is
pub as_its_form : {text f : List ℕ} {answer : Said Matrix} → AcceptedString text → FormOf text f → AcceptedString f →
    StringToMatrix f answer → StringToMatrix text answer
as_its_form accepted form short (refused_string r) = absurd (string_refused_or_accepted r short)
as_its_form accepted form short (high_least_exponent s l h) =
    high_least_exponent accepted (record { same = same_trans (same_sym form.same) l.same; least = l.least }) h
as_its_form accepted form short (least_record s l h) =
    least_record accepted (record { same = same_trans (same_sym form.same) l.same; least = l.least }) h

-- the least record of a form with few T's: answered, or refused where its exponent is high
pub form_refused : {f : List ℕ} {product least : Matrix} → Form f → t_count f ≤ t_limit → product ≡ matrix_of f →
    LeastRecord product least → exponent_limit < least.exponent → StringToMatrix f (refusal HighLeastExponent)
form_refused {least = least} form few e l high = high_least_exponent (short_form form few) (subst (λ (m : Matrix). LeastRecord m least) e l) high

pub form_answered : {f : List ℕ} {product least : Matrix} → Form f → t_count f ≤ t_limit → product ≡ matrix_of f →
    LeastRecord product least → least.exponent ≤ exponent_limit → StringToMatrix f (answered least)
form_answered {least = least} form few e l low = least_record (short_form form few) (subst (λ (m : Matrix). LeastRecord m least) e l) low
