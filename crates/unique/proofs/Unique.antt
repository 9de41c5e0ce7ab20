-- Forms are unique: two forms with the same matrix, phase included, are the same text. By Lemma 4.10 of source 003 their
-- rotation matrices have the same least exponent, so the forms have the same T-count, and the same zero row, so they begin with
-- the same syllable, which is cancelled on the left; what is left in the end are tails, which are told apart. Assumes nothing.
use mathlib.Core.Path.{◌≡◌, refl, ap, ap₂, sym, ◌∙◌, subst, subst₂}
use mathlib.Core.Bool.{Bool, true, false}
use mathlib.Core.List.{List, [], ◌∷◌, ◌++◌, append_assoc}
use Prim.Native.Nat.{ℕ, suc, ◌<◌}
use native.Mathlib.Nat.{zero-add}
use native.Mathlib.Omega.{arith}
use lib.ListN.{length}
use Rattle.matrix.specs.Matrix.{Same}
use Rattle.matrix.specs.Letter.{T, matrix_of, Letters}
use Rattle.matrix.proofs.Times.{matrix_of_append}
use Rattle.matrix.proofs.Same.{same_of_equal, same_sym, same_trans}
use Rattle.matrix.proofs.Unitary.{unitary_matrix_of}
use Rattle.form.specs.Tail.{tails, tail_text}
use Rattle.form.specs.Form.{Syllable, HT, SHT, Parts, Form, front_text, syllable_text, syllables_text, form_text}
use Rattle.form.specs.Count.{t_count}
use Rattle.form.proofs.Count.{t_count_form}
use Rattle.form.proofs.Spelled.{spelled_front, spelled_syllable, five_letters}
use Rattle.form.proofs.Grammar.{SameRest}
use Rattle.rotation.specs.Rotation.{Axis, axis_X, axis_Y, axis_Z, Leftmost, third_for_T, first_for_HT, second_for_SHT, LeastExponent}
use Rattle.matrix.proofs.Adjoint.{unitary_cancel}
use Rattle.rotation.proofs.Entries.{least_exponent_unique, least_exponent_of_same, row_zero_of_same}
use Rattle.rotation.proofs.Lemma.{least_exponent_is_t_count, rows_tell_the_leftmost_syllable}
use Rattle.unique.proofs.Tails.{tails_mean_different}

-- equality in meaning of texts, and the text of a form after its front
abbrev SameText : List ℕ → List ℕ → Type 0
SameText t u = Same (matrix_of t) (matrix_of u)

abbrev rest_text : List Syllable → ℕ → List ℕ
rest_text ss n = syllables_text ss ++ tail_text n

-- the row that tells the leftmost syllable, by front and syllables
told_row : Bool → List Syllable → Axis
told_row true ss = axis_Z
told_row false [] = axis_Z
told_row false (HT ∷ ss) = axis_X
told_row false (SHT ∷ ss) = axis_Y

row_of_leftmost : (parts : Parts) {row : Axis} → Leftmost parts row → told_row parts.front parts.syllables ≡ row
unfolding told_row
row_of_leftmost parts (third_for_T front) = ap (λ (b : Bool). told_row b parts.syllables) front
row_of_leftmost parts (first_for_HT front syllables) = ap₂ told_row front syllables
row_of_leftmost parts (second_for_SHT front syllables) = ap₂ told_row front syllables

-- ---- what two forms with the same matrix share
module _ {f g : List ℕ} (form : Form f) (form' : Form g) (same : SameText f g) where
  -- the least exponent of the first, as one of the second
  shared : LeastExponent (matrix_of g) (t_count f)
  shared = least_exponent_of_same same (least_exponent_is_t_count form)

  same_t_count : t_count f ≡ t_count g
  same_t_count = least_exponent_unique shared (least_exponent_is_t_count form')

  -- the row that is zero in the one is zero in the other
  same_row : 0 < t_count f → told_row form.parts.front form.parts.syllables ≡ told_row form'.parts.front form'.parts.syllables
  unfolding shared
  same_row some =
      let least = least_exponent_is_t_count form in
      let told = rows_tell_the_leftmost_syllable form some least in
      let told' = rows_tell_the_leftmost_syllable form' (subst (λ (n : ℕ). 0 < n) same_t_count some) shared in
      row_of_leftmost form.parts told.leftmost
      ∙ told'.only told.row (row_zero_of_same same least told.row told.zero)
      ∙ sym (row_of_leftmost form'.parts told'.leftmost)

-- ---- a text on the left is cancelled
cancel_text : (s t u : List ℕ) → Letters s → SameText (s ++ t) (s ++ u) → SameText t u
cancel_text s t u letters same =
    unitary_cancel (unitary_matrix_of s letters)
    (same_trans (same_sym (same_of_equal (matrix_of_append s t))) (same_trans same (same_of_equal (matrix_of_append s u))))

-- a form of syllables and a tail
rest_form : (ss : List Syllable) {n : ℕ} → n < tails → Form (rest_text ss n)
unfolding form_text front_text
rest_form ss {n} below = record { parts = record { front = false; syllables = ss; tail = n }; in_tails = below; spelled = refl }

rest_count : (ss : List Syllable) (n : ℕ) → t_count (rest_text ss n) ≡ length ss
unfolding form_text front_text
rest_count ss n = t_count_form (record { front = false; syllables = ss; tail = n }) ∙ zero-add (length ss)

-- two rows are one only where they are the same
X_is_not_Y : axis_X ≡ axis_Y → ⊥
X_is_not_Y e = let z : ◌≡◌ {A = ℕ} 0 1 = cc in omega arith

Z_is_not_X : axis_Z ≡ axis_X → ⊥
Z_is_not_X e = let z : ◌≡◌ {A = ℕ} 0 1 = cc in omega arith

Z_is_not_Y : axis_Z ≡ axis_Y → ⊥
Z_is_not_Y e = let z : ◌≡◌ {A = ℕ} 0 1 = cc in omega arith

-- ---- after the front
told_syllable : (s s' : Syllable) (ss ss' : List Syllable) → told_row false (s ∷ ss) ≡ told_row false (s' ∷ ss') → s ≡ s'
unfolding told_row
told_syllable HT HT ss ss' e = refl
told_syllable HT SHT ss ss' e = absurd (X_is_not_Y e)
told_syllable SHT HT ss ss' e = absurd (X_is_not_Y (sym e))
told_syllable SHT SHT ss ss' e = refl

cancel_syllable : (s : Syllable) (ss ss' : List Syllable) (m n : ℕ) →
    SameText (rest_text (s ∷ ss) m) (rest_text (s ∷ ss') n) →
    SameText (rest_text ss m) (rest_text ss' n)
unfolding syllables_text
cancel_syllable s ss ss' m n same =
    cancel_text (syllable_text s) (rest_text ss m) (rest_text ss' n) (spelled_syllable five_letters s)
    (subst₂ SameText
    (append_assoc (syllable_text s) (syllables_text ss) (tail_text m))
    (append_assoc (syllable_text s) (syllables_text ss') (tail_text n)) same)

rests_unique : (ss ss' : List Syllable) (m n : ℕ) → m < tails → n < tails →
    SameText (rest_text ss m) (rest_text ss' n) → SameRest ss ss' m n
unfolding rest_form
rests_unique [] [] m n below below' same =
    record { syllables = refl; tail = tails_mean_different m n below below' (unfold syllables_text in same) }
rests_unique [] (s ∷ ss') m n below below' same =
    absurd (omega (arith, same_t_count (rest_form [] below) (rest_form (s ∷ ss') below') same, rest_count [] m, rest_count (s ∷ ss') n))
rests_unique (s ∷ ss) [] m n below below' same =
    absurd (omega (arith, same_t_count (rest_form (s ∷ ss) below) (rest_form [] below') same, rest_count (s ∷ ss) m, rest_count [] n))
rests_unique (s ∷ ss) (s' ∷ ss') m n below below' same =
    let some : 0 < t_count (rest_text (s ∷ ss) m) = omega (arith, rest_count (s ∷ ss) m) in
    let first : s ≡ s' = told_syllable s s' ss ss' (same_row (rest_form (s ∷ ss) below) (rest_form (s' ∷ ss') below') same some) in
    let rest = rests_unique ss ss' m n below below'
    (cancel_syllable s' ss ss' m n (rw first at same)) in
    record { syllables = ap₂ ◌∷◌ first rest.syllables; tail = rest.tail }

-- ---- the whole form
-- a form that begins with T
begun_form : (ss : List Syllable) {n : ℕ} → n < tails → Form (T ∷ rest_text ss n)
unfolding form_text front_text
begun_form ss {n} below = record { parts = record { front = true; syllables = ss; tail = n }; in_tails = below; spelled = refl }

begun_count : (ss : List Syllable) (n : ℕ) → t_count (T ∷ rest_text ss n) ≡ suc (length ss)
unfolding t_count
begun_count ss n = ap suc (rest_count ss n)

-- a form that begins with T and one that does not differ in meaning
front_told : (ss ss' : List Syllable) (m n : ℕ) → m < tails → n < tails →
    SameText (T ∷ rest_text ss m) (rest_text ss' n) → ⊥
unfolding rest_form begun_form told_row
front_told ss [] m n below below' same =
    omega (arith, same_t_count (begun_form ss below) (rest_form [] below') same, begun_count ss m, rest_count [] n)
front_told ss (HT ∷ ss') m n below below' same =
    Z_is_not_X (same_row (begun_form ss below) (rest_form (HT ∷ ss') below') same (omega (arith, begun_count ss m)))
front_told ss (SHT ∷ ss') m n below below' same =
    Z_is_not_Y (same_row (begun_form ss below) (rest_form (SHT ∷ ss') below') same (omega (arith, begun_count ss m)))

fronts_unique : (b b' : Bool) (ss ss' : List Syllable) (m n : ℕ) → m < tails → n < tails →
    SameText (front_text b ++ rest_text ss m) (front_text b' ++ rest_text ss' n) →
    (b ≡ b') × SameRest ss ss' m n
unfolding front_text
fronts_unique true true ss ss' m n below below' same =
    (refl, rests_unique ss ss' m n below below' (cancel_text (T ∷ []) (rest_text ss m) (rest_text ss' n) (spelled_front five_letters true) same))
fronts_unique true false ss ss' m n below below' same = absurd (front_told ss ss' m n below below' same)
fronts_unique false true ss ss' m n below below' same = absurd (front_told ss' ss n m below' below (same_sym same))
fronts_unique false false ss ss' m n below below' same = (refl, rests_unique ss ss' m n below below' same)

-- two forms with the same matrix, phase included, are the same text
pub forms_are_unique : (f g : List ℕ) → Form f → Form g → Same (matrix_of f) (matrix_of g) → f ≡ g
unfolding form_text
forms_are_unique f g form form' same =
    let p = form.parts in
    let q = form'.parts in
    let (front, rest) = fronts_unique p.front q.front p.syllables q.syllables p.tail q.tail form.in_tails form'.in_tails
    (subst₂ SameText form.spelled form'.spelled same) in
    form.spelled ∙ (λ i. form_text (record { front = front i; syllables = rest.syllables i; tail = rest.tail i })) ∙ sym form'.spelled
