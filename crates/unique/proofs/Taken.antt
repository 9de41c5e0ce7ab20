-- Source 003, Lemmas 6.3 and 6.4, in document 01's words: every unitary matrix whose rotation matrix has an exponent above 0
-- loses exactly one when the syllable that its zero row tells is taken off the left. It has a form, by completeness, and
-- Lemma 4.10 speaks of that form and of what is left of it. Assumes nothing.
use mathlib.Core.Path.{◌≡◌, refl, ap, sym, ◌∙◌, subst}
use mathlib.Core.Bool.{Bool, false}
use mathlib.Core.List.{List, ◌∷◌, ◌++◌, append_assoc}
use Prim.Native.Nat.{ℕ, suc, ◌+◌, ◌<◌}
use native.Mathlib.Omega.{arith}
use Rattle.matrix.specs.declared.Matrix.{Matrix}
use Rattle.matrix.specs.Matrix.{Same, Unitary}
use Rattle.matrix.specs.Letter.{matrix_of}
use Rattle.matrix.proofs.Times.{matrix_of_append}
use Rattle.matrix.proofs.Same.{same_of_equal, same_sym, same_trans}
use Rattle.matrix.proofs.Unitary.{unitary_matrix_of}
use Rattle.form.specs.Tail.{tails, tail_text}
use Rattle.form.specs.Form.{Syllable, HT, SHT, Parts, Form, form_text, front_text, syllable_text, syllables_text}
use Rattle.form.specs.Count.{t_count}
use Rattle.form.proofs.Count.{t_count_append, t_count_syllable}
use Rattle.form.proofs.Spelled.{form_is_letters}
use Rattle.extend_form.proofs.Exists.{form_exists}
use Rattle.complete.proofs.Complete.{complete}
use Rattle.rotation.specs.Rotation.{Axis, LeastExponent, Leftmost, third_for_T, first_for_HT, second_for_SHT}
use Rattle.rotation.proofs.Entries.{least_exponent_of_same, row_zero_from_same}
use Rattle.rotation.proofs.Lemma.{lemma_4_10}
use Rattle.unique.specs.Loses.{RightOne, T_by_third, HT_by_first, SHT_by_second, LosesOne}

-- a form's leftmost syllable, and the form that is left after it
record Taken (parts : Parts) (row : Axis) : Type 0 where
  syllable : List ℕ
  right : RightOne row syllable
  one_T : t_count syllable ≡ 1
  rest : Parts
  same_tail : rest.tail ≡ parts.tail
  joined : form_text parts ≡ syllable ++ form_text rest

abbrev headless : List Syllable → ℕ → Parts
headless syllables tail = record { front = false; syllables = syllables; tail = tail }

-- a syllable at the front of a form without a leading T
taken_syllable :
    (parts : Parts) {row : Axis} (s : Syllable) {rest : List Syllable} → RightOne row (syllable_text s) →
    parts.front ≡ false → parts.syllables ≡ s ∷ rest → Taken parts row
unfolding form_text front_text syllables_text
taken_syllable parts s {rest} right front syllables =
    record {
      syllable = syllable_text s;
      right = right;
      one_T = t_count_syllable s;
      rest = headless rest parts.tail;
      same_tail = refl;
      joined =
          (λ i. form_text (record { front = front i; syllables = syllables i; tail = parts.tail }))
          ∙ append_assoc (syllable_text s) (syllables_text rest) (tail_text parts.tail);
    }

taken : (parts : Parts) {row : Axis} → Leftmost parts row → Taken parts row
unfolding form_text front_text syllable_text t_count
taken parts (third_for_T front) =
    record {
      syllable = _;
      right = T_by_third;
      one_T = refl;
      rest = headless parts.syllables parts.tail;
      same_tail = refl;
      joined = ap (λ (b : Bool). form_text (record { front = b; syllables = parts.syllables; tail = parts.tail })) front;
    }
taken parts (first_for_HT front syllables) = taken_syllable parts HT HT_by_first front syllables
taken parts (second_for_SHT front syllables) = taken_syllable parts SHT SHT_by_second front syllables

of_form : {u : Matrix} {f : List ℕ} (form : Form f) → Same (matrix_of f) u → {m : ℕ} (least : LeastExponent u (suc m)) → LosesOne least
of_form {u} {f} form same {m} least =
    let (exponent, tells) = (lemma_4_10 form).1 (suc m) (least_exponent_of_same (same_sym same) least) in
    let told = tells (omega arith) in
    let off = taken form.parts told.leftmost in
    let rest : Form (form_text off.rest) =
    record { parts = off.rest; in_tails = subst (λ (n : ℕ). n < tails) (sym off.same_tail) form.in_tails; spelled = refl } in
    let whole : f ≡ off.syllable ++ form_text off.rest = form.spelled ∙ off.joined in
    let counts : t_count f ≡ t_count off.syllable + t_count (form_text off.rest) =
    ap t_count whole ∙ t_count_append off.syllable (form_text off.rest) in
    let fewer : t_count (form_text off.rest) ≡ m = omega (arith, off.one_T) in
    record {
      row = told.row;
      zero = row_zero_from_same (same_sym same) least told.row told.zero;
      syllable = off.syllable;
      right = off.right;
      rest = matrix_of (form_text off.rest);
      unitary = unitary_matrix_of (form_text off.rest) (form_is_letters rest);
      taken_off =
          same_trans (same_sym same)
          (same_of_equal (ap matrix_of whole ∙ matrix_of_append off.syllable (form_text off.rest)));
      lower = subst (LeastExponent (matrix_of (form_text off.rest))) fewer (lemma_4_10 rest).0;
    }

pub loses_exactly_one : {u : Matrix} → Unitary u → {m : ℕ} (least : LeastExponent u (suc m)) → LosesOne least
loses_exactly_one {u} unitary least =
    let (w, letters, means, few) = complete u unitary in
    let (f, of, no_more) = form_exists w letters in
    of_form of.form (same_trans of.same means) least
