-- The exponent of a text's matrix counts its H's, and a form holds at most one more H than T's: so every ending of a form
-- with few T's is roomy, and a letter more on the left is a product more. Assumes nothing.
use Prim.Native.Nat.{ℕ, zero, suc, ◌+◌, ◌-◌, ◌≤◌, ◌<◌}
use native.Mathlib.Nat.{sub-zero, sub-eq-zero_of_le}
use native.Mathlib.Omega.{arith}
use mathlib.Core.Bool.{Bool, true, false}
use mathlib.Core.List.{List, [], ◌∷◌, ◌++◌}
use mathlib.Core.Path.{◌≡◌, refl, sym, ap, ◌∙◌}
use lib.ListN.{length, take, drop, get_or, replicate, take-append-drop}
use lib.Seq.{drop-length, drop-cons}
use Rattle.lists.proofs.List.{every_drop}
use Rattle.matrix.specs.Matrix.{times, identity}
use Rattle.matrix.specs.Letter.{S, W, X, gate, gate_H, gate_S, gate_T, gate_W, gate_X, matrix_of}
use Rattle.matrix.proofs.Times.{matrix_of_append}
use Rattle.matrix.proofs.Unitary.{unitary_matrix_of}
use Rattle.form.specs.Tail.{tail_h, tail_b, tail_c, tail_a, head_text, tail_text}
use Rattle.form.specs.Form.{Syllable, HT, SHT, Parts, Form, front_text, syllable_text, syllables_text, form_text}
use Rattle.form.specs.Count.{t_count}
use Rattle.form.proofs.Count.{t_count_form}
use Rattle.form.proofs.Spelled.{form_is_letters}
use Rattle.string_to_matrix.specs.Room.{t_limit, Roomy}

-- the exponent of a text's matrix
exponent_of : List ℕ → ℕ
exponent_of w = (matrix_of w).exponent

exponent_append : (s t : List ℕ) → exponent_of (s ++ t) ≡ exponent_of s + exponent_of t
unfolding exponent_of times
exponent_append s t = ap (λ m. m.exponent) (matrix_of_append s t)

exponent_replicate : (n b : ℕ) → (gate b).exponent ≡ 0 → exponent_of (replicate n b) ≡ 0
unfolding exponent_of matrix_of times identity
exponent_replicate zero b level = refl
exponent_replicate (suc n) b level = omega (arith, exponent_replicate n b level)

exponent_head : (h : ℕ) → exponent_of (head_text h) ≤ 1
unfolding exponent_of head_text matrix_of times identity gate gate_H gate_S
exponent_head zero = omega arith
exponent_head (suc zero) = omega arith
exponent_head (suc (suc h)) = omega arith

exponent_tail : (n : ℕ) → exponent_of (tail_text n) ≤ 1
unfolding tail_text gate gate_S gate_W gate_X
exponent_tail n =
    let xs = replicate (tail_b n) X in
    let ss = replicate (tail_c n) S in
    let ws = replicate (tail_a n) W in
    omega (
      arith,
      exponent_append (head_text (tail_h n)) (xs ++ (ss ++ ws)),
      exponent_append xs (ss ++ ws),
      exponent_append ss ws,
      exponent_head (tail_h n),
      exponent_replicate (tail_b n) X refl,
      exponent_replicate (tail_c n) S refl,
      exponent_replicate (tail_a n) W refl,
    )

exponent_syllable : (s : Syllable) → exponent_of (syllable_text s) ≡ 1
unfolding exponent_of syllable_text matrix_of times identity gate gate_H gate_S gate_T
exponent_syllable HT = refl
exponent_syllable SHT = refl

exponent_syllables : (ss : List Syllable) → exponent_of (syllables_text ss) ≡ length ss
unfolding syllables_text exponent_of matrix_of identity
exponent_syllables [] = refl
exponent_syllables (s ∷ ss) =
    exponent_append (syllable_text s) (syllables_text ss) ∙ omega (arith, exponent_syllable s, exponent_syllables ss)

exponent_front : (b : Bool) → exponent_of (front_text b) ≡ 0
unfolding exponent_of front_text matrix_of times identity gate gate_T
exponent_front true = refl
exponent_front false = refl

-- a form holds at most one more H than T's: one for each syllable, and one in its tail
parts_exponent : (p : Parts) → exponent_of (form_text p) ≤ t_count (form_text p) + 1
unfolding form_text
parts_exponent p =
    let front = front_text p.front in
    let syllables = syllables_text p.syllables in
    let tail = tail_text p.tail in
    omega (
      arith,
      t_count_form p,
      exponent_append front (syllables ++ tail),
      exponent_append syllables tail,
      exponent_front p.front,
      exponent_syllables p.syllables,
      exponent_tail p.tail,
    )

form_exponent : {f : List ℕ} → Form f → exponent_of f ≤ t_count f + 1
form_exponent form = rw form.spelled (parts_exponent form.parts)

-- the last letters of a text, so many
abbrev pub ending : ℕ → List ℕ → List ℕ
ending n f = drop (length f - n) f

exponent_drop : (i : ℕ) (f : List ℕ) → exponent_of (drop i f) ≤ exponent_of f
exponent_drop i f = omega (arith, exponent_append (take i f) (drop i f), ap exponent_of (take-append-drop i f))

-- a form with few T's has room, and so has each of its endings
pub form_roomy : {f : List ℕ} → Form f → t_count f ≤ t_limit → Roomy (matrix_of f)
unfolding exponent_of
form_roomy {f} form few = record { unitary = unitary_matrix_of f (form_is_letters form); low = omega (arith, form_exponent form) }

pub ending_roomy : {f : List ℕ} (n : ℕ) → Form f → t_count f ≤ t_limit → Roomy (matrix_of (ending n f))
unfolding exponent_of
ending_roomy {f} n form few =
    let i = length f - n in
    record {
      unitary = unitary_matrix_of (drop i f) (every_drop i (form_is_letters form));
      low = omega (arith, exponent_drop i f, (form_roomy form few).low);
    }

pub ending_none : (f : List ℕ) → ending 0 f ≡ []
ending_none f = ap (λ (k : ℕ). drop k f) (sub-zero (length f)) ∙ drop-length f

pub ending_all : (f : List ℕ) (n : ℕ) → length f ≤ n → ending n f ≡ f
ending_all f n all = ap (λ (k : ℕ). drop k f) (sub-eq-zero_of_le all)

-- one letter more on the left
pub ending_more : (f : List ℕ) (n : ℕ) → n < length f →
    times (gate (get_or f (length f - (n + 1)) 0)) (matrix_of (ending n f)) ≡ matrix_of (ending (n + 1) f)
unfolding matrix_of
ending_more f n more =
    let i = length f - (n + 1) in
    let next : length f - n ≡ suc i = omega arith in
    ap (λ (k : ℕ). times (gate (get_or f i 0)) (matrix_of (drop k f))) next ∙ ap matrix_of (sym (drop-cons f i 0 (omega arith)))
