-- The second demand: "The form has the same exact matrix as what went in, phase included. A matrix inside the limits, with
-- enough room lent for its form, is taken exactly when it is unitary. Its form, read as a string and turned back into a
-- matrix, gives that matrix with the least exponent." Assumes nothing.
use mathlib.Core.Path.{◌≡◌, refl, ap, sym, ◌∙◌, subst}
use mathlib.Core.List.{List}
use mathlib.Core.Logic.{◌↔◌}
use Prim.Native.Nat.{ℕ, ◌≤◌, ◌*◌, ◌+◌}
use native.Mathlib.Omega.{arith}
use native.Mathlib.Nat.{le_trans}
use lib.ListN.{length, take, drop}
use Rattle.matrix.specs.declared.Matrix.{Matrix}
use Rattle.matrix.specs.Matrix.{Same, Unitary, LeastRecord}
use Rattle.matrix.specs.Letter.{matrix_of}
use Rattle.matrix.proofs.Same.{same_sym, same_trans, same_of_equal}
use Rattle.matrix.proofs.Unitary.{unitary_matrix_of}
use Rattle.form.specs.Form.{Form}
use Rattle.form.specs.Count.{t_count, h_count}
use Rattle.form.proofs.Spelled.{form_is_letters}
use Rattle.answer.specs.declared.Figures.{Figures}
use Rattle.answer.specs.Refusal.{Said, accepted}
use Rattle.answer.specs.Written.{PutForm, no_room, room, figures_of}
use Rattle.answer.proofs.Put.{Stands, put_stands}
use Rattle.answer.specs.Limits.{exponent_limit}
use Rattle.alphabet.specs.String.{AcceptedString}
use Rattle.alphabet.proofs.String.{string_refused_or_accepted}
use Rattle.accept_record.specs.Accept.{Inside}
use Rattle.string_to_matrix.specs.Promise.{StringToMatrix, refused_string, high_least_exponent, least_record}
use Rattle.demands.specs.Input.{Input, a_record, Promised, Accepted, string, matrix, frame}
use Rattle.demands.specs.Answer.{form_in, Formed, Room, Taken}
use Rattle.demands.proofs.Cases.{Case, of_input, of_form, promised_case, refused_or_accepted, accepted_once}
use Rattle.unique.proofs.Unique.{forms_are_unique}
use Rattle.extend_form.proofs.Exists.{form_exists, form_length}
use Rattle.complete.proofs.Complete.{complete}

-- a form that stands at the start of the buffer is what the answer speaks of
stands_in : {f before after : List ℕ} {x : Figures} → Stands f before x after → form_in x after ≡ f
unfolding form_in figures_of
stands_in {after = after} st = ap (λ (n : ℕ). take n after) (ap (λ (y : Figures). y.length) st.figures) ∙ st.start

formed : {m : Matrix} {f before after : List ℕ} {x : Figures} → Form f → Same (matrix_of f) m → Stands f before x after → Formed m before x after
unfolding figures_of
formed {m} {f} {before} {after} {x} form same st =
    let e = stands_in st in
    record {
      form = subst Form (sym e) form;
      same = subst (λ (g : List ℕ). Same (matrix_of g) m) (sym e) same;
      length = ap (λ (y : Figures). y.length) st.figures ∙ ap length (sym e);
      tcount = ap (λ (y : Figures). y.tcount) st.figures ∙ ap t_count (sym e);
      hcount = ap (λ (y : Figures). y.hcount) st.figures ∙ ap h_count (sym e);
      rest = subst (λ (n : ℕ). drop n after ≡ drop n before) (sym (ap (λ (y : Figures). y.length) st.figures)) st.rest;
    }

case_formed : {i : Input} {m : Matrix} {before after : List ℕ} {x : Figures} → Accepted i m → Case i before (accepted x) after → Formed m before x after
case_formed a (of_form b f s p) = formed f (same_trans s (same_of_equal (accepted_once b a))) (put_stands p)

-- "The form has the same exact matrix as what went in, phase included", and the figures are those of its text
pub form_has_the_matrix : {i : Input} {m : Matrix} {before after : List ℕ} {x : Figures} → Accepted i m → Promised i before (accepted x) after → Formed m before x after
form_has_the_matrix a p = case_formed a (promised_case p)

-- where there is room for the form it is taken
written_taken : {f before after : List ℕ} {answer : Said Figures} → length f ≤ length before → PutForm f before answer after → Taken answer
written_taken enough (room h) = record { figures = figures_of _; taken = refl }
written_taken enough (no_room h) = absurd (omega arith)

case_taken : {i : Input} {m : Matrix} {before after : List ℕ} {answer : Said Figures} → Accepted i m → Room m before → Case i before answer after → Taken answer
case_taken a enough (of_input r) = absurd (refused_or_accepted r a)
case_taken a enough (of_form {f = text} b f s p) =
    written_taken (enough.enough text f (same_trans s (same_of_equal (accepted_once b a)))) p

-- an accepted input with enough room gets its form
pub accepted_is_taken : {i : Input} {m : Matrix} {before after : List ℕ} {answer : Said Figures} → Accepted i m → Room m before → Promised i before answer after → Taken answer
accepted_is_taken a enough p = case_taken a enough (promised_case p)

taken_is_unitary : {m : Matrix} {before after : List ℕ} {x : Figures} → Case (a_record m) before (accepted x) after → Unitary m
taken_is_unitary (of_form (matrix a) f s p) = a.unitary

-- "A matrix inside the limits, with enough room lent for its form, is taken exactly when it is unitary."
pub taken_exactly_when_unitary : {m : Matrix} {before after : List ℕ} {answer : Said Figures} →
    Inside m → Room m before → Promised (a_record m) before answer after → Taken answer ↔ Unitary m
taken_exactly_when_unitary {m} {before} {after} inside enough p = (
  (λ (t : Taken _). taken_is_unitary (subst (λ (said : Said Figures). Case (a_record m) before said after) t.taken (promised_case p))),
  (λ (u : Unitary m). accepted_is_taken (matrix (record { inside = inside; unitary = u })) enough p),
)

-- an accepted input has a unitary matrix
pub accepted_is_unitary : {i : Input} {m : Matrix} → Accepted i m → Unitary m
accepted_is_unitary (string {text} a) = unitary_matrix_of text a.letters
accepted_is_unitary (matrix a) = a.unitary
accepted_is_unitary (frame a) = a.record_accepted.unitary

-- no form of a unitary record has more than 2k + 1 T's
pub few_ts : (m : Matrix) → Unitary m → (g : List ℕ) → Form g → Same (matrix_of g) m → t_count g ≤ 2 * m.exponent + 1
few_ts m u g form same =
    let (w, letters, means, bound) = complete m u in
    let (f, is_form, fewer) = form_exists w letters in
    let e : f ≡ g = forms_are_unique f g is_form.form form (same_trans is_form.same (same_trans means (same_sym same))) in
    subst (λ (h : List ℕ). t_count h ≤ 2 * m.exponent + 1) e (le_trans fewer bound)

-- a form of a unitary record within the exponent's limit is short enough for a string
form_is_accepted : (m : Matrix) → Unitary m → m.exponent ≤ exponent_limit → (g : List ℕ) → Form g → Same (matrix_of g) m → AcceptedString g
form_is_accepted m u h g form same =
    let ts = few_ts m u g form same in
    record { within = omega (arith, form_length form); letters = form_is_letters form }

-- what string to matrix answers of a text that means m
gives_back : {m : Matrix} {g : List ℕ} {answer : Said Matrix} →
    m.exponent ≤ exponent_limit → Same (matrix_of g) m → AcceptedString g → StringToMatrix g answer →
    (r : Matrix) × (answer ≡ accepted r) × LeastRecord m r
gives_back h same a (refused_string r) = absurd (string_refused_or_accepted r a)
gives_back {m} h same a (high_least_exponent {m = r} b l high) =
    let low = l.least.smallest m (same_trans (same_sym l.same) same) in absurd (omega arith)
gives_back h same a (least_record {m = r} b l low) = (r, refl, record { same = same_trans (same_sym same) l.same; least = l.least })

-- "Its form, read as a string and turned back into a matrix, gives that matrix with the least exponent."
pub form_gives_the_least_record : {i : Input} {m : Matrix} {before after : List ℕ} {x : Figures} {answer : Said Matrix} →
    Accepted i m → m.exponent ≤ exponent_limit → Promised i before (accepted x) after → StringToMatrix (form_in x after) answer →
    (r : Matrix) × (answer ≡ accepted r) × LeastRecord m r
form_gives_the_least_record {m = m} {after = after} {x = x} a h p back =
    let is = form_has_the_matrix a p in
    gives_back h is.same (form_is_accepted m (accepted_is_unitary a) h (form_in x after) is.form is.same) back
