-- The lazy units of document 01 are caught: no unit with such a behaviour keeps the promise. Each is asked one or two
-- small questions whose answers are worked cases: the empty string, TT, and the record of H. Assumes nothing.
use mathlib.Core.Path.{◌≡◌, refl, ap, sym, ◌∙◌, subst}
use mathlib.Core.Bool.{false}
use mathlib.Core.List.{List, [], ◌∷◌}
use Prim.Native.Nat.{ℕ, ◌<◌, ◌≤◌, zero-le, suc-le-suc}
use native.Mathlib.Omega.{arith}
use lib.ListN.{length}
use Rattle.lists.specs.List.{none, more}
use Rattle.lists.proofs.List.{every_first, every_rest}
use Rattle.ring.specs.Element.{one, negation}
use Rattle.matrix.specs.declared.Matrix.{Matrix}
use Rattle.matrix.specs.Matrix.{Same}
use Rattle.matrix.specs.Letter.{is_letter, H, S, T, gate, gate_H, matrix_of}
use Rattle.matrix.specs.Text.{bytes}
use Rattle.matrix.proofs.Times.{matrix_of_letter}
use Rattle.matrix.proofs.Same.{same_of_equal}
use Rattle.matrix.proofs.Unitary.{unitary_letter}
use Rattle.form.specs.Tail.{tail_text, head_text}
use Rattle.form.specs.Form.{Form, FormOf, form_text, front_text, syllables_text}
use Rattle.form.specs.Count.{t_count, h_count}
use Rattle.form.specs.Worked.{table}
use Rattle.form.proofs.Worked.{worked_cases}
use Rattle.answer.specs.declared.Figures.{Figures}
use Rattle.answer.specs.Refusal.{Said, accepted, refused}
use Rattle.answer.specs.Written.{figures_of, put, room}
use Rattle.answer.proofs.Told.{accepted_is_not_refused}
use Rattle.alphabet.specs.String.{AcceptedString}
use Rattle.accept_record.specs.Accept.{AcceptedRecord, in_limit}
use Rattle.coefficients.specs.Coefficients.{coefficients}
use Rattle.string_to_form.specs.Promise.{with_form}
use Rattle.matrix_to_form.specs.Promise as MatrixToFormRules
use Rattle.demands.specs.Input.{Input, a_string, a_record, Promised, of_string, of_record, Accepted}
use Rattle.demands.specs.Answer.{form_in}
use Rattle.demands.specs.Call.{Call, Keeps}
use Rattle.demands.proofs.First.{answers_once}
use Rattle.demands.proofs.Second.{form_has_the_matrix}

-- the texts TT and S
abbrev TT : List ℕ
TT = T ∷ T ∷ []

abbrev just_S : List ℕ
just_S = S ∷ []

-- two worked cases
form_of_nothing : FormOf [] []
unfolding table bytes
form_of_nothing = every_first worked_cases

form_of_TT : FormOf TT just_S
unfolding table bytes
form_of_TT = every_first (every_rest (every_rest (every_rest worked_cases)))

nothing_accepted : AcceptedString []
nothing_accepted = record { within = omega arith; letters = none }

TT_accepted : AcceptedString TT
unfolding is_letter
TT_accepted = record { within = omega arith; letters = more refl (more refl none) }

-- what the promise asks for the empty string, and for TT with room for a byte
asked_of_nothing : (before : List ℕ) → Promised (a_string []) before (accepted (figures_of [])) (put [] before)
asked_of_nothing before = of_string (with_form nothing_accepted form_of_nothing (room zero-le))

asked_of_TT : (b : ℕ) (rest : List ℕ) → Promised (a_string TT) (b ∷ rest) (accepted (figures_of just_S)) (put just_S (b ∷ rest))
asked_of_TT b rest = of_string (with_form TT_accepted form_of_TT (room (suc-le-suc zero-le)))

gate_of_H : gate H ≡ gate_H
unfolding gate
gate_of_H = refl

-- the record of H is accepted, and its form is H
H_accepted : AcceptedRecord gate_H
unfolding gate gate_H is_letter coefficients in_limit one negation
H_accepted = record {
  inside = record {
    exponent = omega arith;
    coefficients = more refl (more refl (more refl (more refl
        (more refl (more refl (more refl (more refl
        (more refl (more refl (more refl (more refl
        (more refl (more refl (more refl (more refl none)))))))))))))));
  };
  unitary = unitary_letter H refl;
}

-- the text H, a form of the record
abbrev just_H : List ℕ
just_H = H ∷ []

H_form : Form just_H
unfolding form_text front_text syllables_text tail_text head_text
H_form = record { parts = record { front = false; syllables = []; tail = 64 }; in_tails = omega arith; spelled = refl }

asked_of_H : (b : ℕ) → Promised (a_record gate_H) (b ∷ []) (accepted (figures_of just_H)) (put just_H (b ∷ []))
asked_of_H b = of_record (MatrixToFormRules.with_form H_accepted H_form H_same (room (suc-le-suc zero-le)))
  where
    H_same : Same (matrix_of just_H) gate_H
    H_same = same_of_equal (matrix_of_letter H ∙ gate_of_H)

above_zero : 0 < gate_H.exponent
unfolding gate_H
above_zero = suc-le-suc zero-le

-- lengths and bytes that differ
same_length : {x y : Figures} → accepted x ≡ accepted y → x.length ≡ y.length
same_length {x} {y} e = let figures : x ≡ y = cc in ap (λ (z : Figures). z.length) figures

different_lengths : accepted (figures_of []) ≡ accepted (figures_of just_S) → ⊥
unfolding figures_of
different_lengths e = let lengths = same_length e in omega arith

one_is_not_two : (figures_of just_S).length ≡ (figures_of TT).length → ⊥
unfolding figures_of
one_is_not_two e = omega arith

byte_is_not_S : 0 ∷ [] ≡ put just_S (0 ∷ []) → ⊥
unfolding put
byte_is_not_S e = let byte : 0 ≡ S = cc in omega arith

module _ (call : Call) (keeps : Keeps call) where
  says_of_nothing : (before : List ℕ) → call.answer (a_string []) before ≡ accepted (figures_of [])
  says_of_nothing before = (answers_once (keeps.promised (a_string []) before) (asked_of_nothing before)).0

  says_of_TT : (b : ℕ) (rest : List ℕ) → call.answer (a_string TT) (b ∷ rest) ≡ accepted (figures_of just_S)
  says_of_TT b rest = (answers_once (keeps.promised (a_string TT) (b ∷ rest)) (asked_of_TT b rest)).0

  leaves_of_TT : (b : ℕ) (rest : List ℕ) → call.after (a_string TT) (b ∷ rest) ≡ put just_S (b ∷ rest)
  leaves_of_TT b rest = (answers_once (keeps.promised (a_string TT) (b ∷ rest)) (asked_of_TT b rest)).1

  says_of_H : (b : ℕ) → call.answer (a_record gate_H) (b ∷ []) ≡ accepted (figures_of just_H)
  says_of_H b = (answers_once (keeps.promised (a_record gate_H) (b ∷ [])) (asked_of_H b)).0

  -- the promise at an answer that is a form
  kept : (i : Input) (before : List ℕ) (x : Figures) → call.answer i before ≡ accepted x → Promised i before (accepted x) (call.after i before)
  kept i before x e = subst (λ (said : Said Figures). Promised i before said (call.after i before)) e (keeps.promised i before)

  -- "a unit that refuses everything"
  pub refusing_everything : ((i : Input) (before : List ℕ) → (n : ℕ) × (p : ℕ) × (call.answer i before ≡ refused n p)) → ⊥
  refusing_everything lazy = let (n, p, e) = lazy (a_string []) [] in accepted_is_not_refused (sym (says_of_nothing []) ∙ e)

  -- "one that writes the empty form"
  pub writing_the_empty_form : ((text before : List ℕ) → AcceptedString text → call.answer (a_string text) before ≡ accepted (figures_of [])) → ⊥
  writing_the_empty_form lazy = different_lengths (sym (lazy TT (0 ∷ []) TT_accepted) ∙ says_of_TT 0 [])

  -- "or one fixed form"
  pub writing_one_fixed_form : (f : List ℕ) → ((text before : List ℕ) → AcceptedString text → length f ≤ length before → call.answer (a_string text) before ≡ accepted (figures_of f)) → ⊥
  writing_one_fixed_form f lazy = different_lengths (sym (says_of_nothing (0 ∷ f)) ∙ (lazy [] (0 ∷ f) nothing_accepted (omega arith) ∙ (sym (lazy TT (0 ∷ f) TT_accepted (omega arith)) ∙ says_of_TT 0 f)))

  -- "one that copies the string out and calls it normal"
  pub copying_the_string : ((text before : List ℕ) → AcceptedString text → length text ≤ length before → call.answer (a_string text) before ≡ accepted (figures_of text)) → ⊥
  copying_the_string lazy = one_is_not_two (same_length (sym (says_of_TT 0 (0 ∷ [])) ∙ lazy TT (0 ∷ 0 ∷ []) TT_accepted (omega arith)))

  -- "one that leaves the buffer alone and says ok"
  pub leaving_the_buffer_alone : ((i : Input) (before : List ℕ) (x : Figures) → call.answer i before ≡ accepted x → call.after i before ≡ before) → ⊥
  leaving_the_buffer_alone lazy = byte_is_not_S (sym (lazy (a_string TT) (0 ∷ []) _ (says_of_TT 0 [])) ∙ leaves_of_TT 0 [])

  -- "one that reports a T-count or H-count not found in its text"
  pub inventing_a_t_count : (i : Input) (m : Matrix) (before : List ℕ) (x : Figures) → Accepted i m → call.answer i before ≡ accepted x →
      (x.tcount ≡ t_count (form_in x (call.after i before)) → ⊥) → ⊥
  inventing_a_t_count i m before x a e lazy = lazy (form_has_the_matrix a (kept i before x e)).tcount

  pub inventing_an_h_count : (i : Input) (m : Matrix) (before : List ℕ) (x : Figures) → Accepted i m → call.answer i before ≡ accepted x →
      (x.hcount ≡ h_count (form_in x (call.after i before)) → ⊥) → ⊥
  inventing_an_h_count i m before x a e lazy = lazy (form_has_the_matrix a (kept i before x e)).hcount

  -- "a matrix route that refuses each unitary matrix with k above 0"
  pub refusing_above_exponent_zero :
      ((m : Matrix) (before : List ℕ) → AcceptedRecord m → 0 < m.exponent → (n : ℕ) × (p : ℕ) × (call.answer (a_record m) before ≡ refused n p)) → ⊥
  refusing_above_exponent_zero lazy =
      let (n, p, e) = lazy gate_H (0 ∷ []) H_accepted above_zero in accepted_is_not_refused (sym (says_of_H 0) ∙ e)
