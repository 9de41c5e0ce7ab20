-- The first demand: "It ends with an answer or a numbered refusal from our table, given exactly when the table says.
-- After a refusal no lent byte has changed." That every call ends with what is promised is each call's own contract; here
-- is what the promises say, for strings, records and frames alike. Assumes nothing.
use mathlib.Core.Path.{◌≡◌, refl, ap, subst}
use mathlib.Core.List.{List}
use mathlib.Core.Logic.{◌↔◌}
use Prim.Native.Nat.{ℕ}
use Rattle.std.specs.Prelude.{Result}
use Rattle.matrix.specs.declared.Matrix.{Matrix}
use Rattle.matrix.specs.Matrix.{Same}
use Rattle.matrix.specs.Letter.{matrix_of}
use Rattle.matrix.proofs.Same.{same_sym, same_trans, same_of_equal}
use Rattle.form.specs.Form.{Form}
use Rattle.answer.specs.declared.Figures.{Figures}
use Rattle.answer.specs.declared.Refusal.{Refusal}
use Rattle.answer.specs.Refusal.{Said, refused, refusal, said}
use Rattle.answer.specs.Written.{PutForm, no_room}
use Rattle.answer.proofs.Put.{put_refused, put_once}
use Rattle.answer.proofs.Told.{said_told}
use Rattle.demands.specs.Input.{Input, Promised}
use Rattle.demands.specs.Answer.{ByTable, for_the_input, for_want_of_room}
use Rattle.demands.proofs.Cases.{Case, of_input, of_form, promised_case, refused_once, refused_or_accepted, accepted_once}
use Rattle.unique.proofs.Unique.{forms_are_unique}

-- a matrix has one form
one_form : {f g : List ℕ} {m n : Matrix} → m ≡ n → Form f → Same (matrix_of f) m → Form g → Same (matrix_of g) n → f ≡ g
one_form {f} {g} e a s b t = forms_are_unique f g a b (same_trans s (same_trans (same_of_equal e) (same_sym t)))

cases_once : {i : Input} {before after after' : List ℕ} {answer answer' : Said Figures} →
    Case i before answer after → Case i before answer' after' → (answer ≡ answer') × (after ≡ after')
cases_once (of_input r) (of_input s) = (ap refusal (refused_once r s), refl)
cases_once (of_input r) (of_form a f s p) = absurd (refused_or_accepted r a)
cases_once (of_form a f s p) (of_input r) = absurd (refused_or_accepted r a)
cases_once {before = before} (of_form {f = f} {answer = answer} {after = after} a form s p) (of_form {f = g} b form' t q) =
    put_once (subst (λ (h : List ℕ). PutForm h before answer after) (one_form (accepted_once a b) form s form' t) p) q

-- two answers and buffers that both fit the promise are equal: each refusal is given exactly in its case
pub answers_once : {i : Input} {before after after' : List ℕ} {answer answer' : Said Figures} →
    Promised i before answer after → Promised i before answer' after' → (answer ≡ answer') × (after ≡ after')
answers_once p q = cases_once (promised_case p) (promised_case q)

-- so the value that is returned is one
pub returns_once : {i : Input} {before after after' : List ℕ} (a b : Result Figures Refusal) →
    Promised i before (said a) after → Promised i before (said b) after' → (a ≡ b) × (after ≡ after')
returns_once a b p q = let once = answers_once p q in (said_told a b once.0, once.1)

case_refused : {i : Input} {before after : List ℕ} {n p : ℕ} → Case i before (refused n p) after → after ≡ before
case_refused (of_input r) = refl
case_refused (of_form a f s p) = put_refused p

-- "After a refusal no lent byte has changed."
pub refusal_changes_nothing : {i : Input} {before after : List ℕ} {n p : ℕ} → Promised i before (refused n p) after → after ≡ before
refusal_changes_nothing p = case_refused (promised_case p)

-- a refusal that is given is one of the table's
case_by_table : {i : Input} {before after : List ℕ} {n p : ℕ} → Case i before (refused n p) after → ByTable i before n p
case_by_table (of_input r) = for_the_input r
case_by_table (of_form a f s (no_room h)) = for_want_of_room a f s h

-- and what the table refuses is refused so
table_case : {i : Input} {before after : List ℕ} {n p : ℕ} {answer : Said Figures} →
    ByTable i before n p → Case i before answer after → answer ≡ refused n p
table_case (for_the_input r) c = (cases_once c (of_input r)).0
table_case (for_want_of_room a f s h) c = (cases_once c (of_form a f s (no_room h))).0

-- "a numbered refusal from our table, given exactly when the table says"
pub refused_exactly_when_the_table_says : {i : Input} {before after : List ℕ} {n p : ℕ} {answer : Said Figures} →
    Promised i before answer after → (answer ≡ refused n p) ↔ ByTable i before n p
refused_exactly_when_the_table_says {i} {before} {after} {n} {p} {answer} promise = (
  (λ (e : answer ≡ refused n p). case_by_table (subst (λ (said : Said Figures). Case i before said after) e (promised_case promise))),
  (λ (t : ByTable i before n p). table_case t (promised_case promise)),
)
