-- Forms are spelled with five letters: what holds of H, S, T, W and X holds of every byte of a form. So every form is made
-- of letters. Assumes nothing.
use Prim.Native.Nat.{ℕ, zero, suc}
use mathlib.Core.Bool.{Bool, true, false}
use mathlib.Core.List.{List, [], ◌∷◌}
use mathlib.Core.Path.{◌≡◌, refl}
use Rattle.lists.specs.List.{Every, none, more}
use Rattle.lists.proofs.List.{every_join, every_replicate}
use Rattle.matrix.specs.Letter.{H, S, T, W, X, Letters, is_letter}
use Rattle.form.specs.Tail.{tail_h, tail_b, tail_c, tail_a, head_text, tail_text}
use Rattle.form.specs.Form.{Syllable, HT, SHT, Form, syllable_text, syllables_text, front_text, form_text}

-- it holds of the five letters that forms are spelled with
pub record OfFive (P : ℕ → Type 0) : Type 0 where
  pub of_H : P H
  pub of_S : P S
  pub of_T : P T
  pub of_W : P W
  pub of_X : P X

pub spelled_head : {P : ℕ → Type 0} → OfFive P → (h : ℕ) → Every P (head_text h)
unfolding head_text
spelled_head five zero = none
spelled_head five (suc zero) = more five.of_H none
spelled_head five (suc (suc h)) = more five.of_S (more five.of_H none)

pub spelled_tail : {P : ℕ → Type 0} → OfFive P → (n : ℕ) → Every P (tail_text n)
unfolding tail_text
spelled_tail five n =
    every_join (spelled_head five (tail_h n))
    (every_join (every_replicate (tail_b n) X five.of_X)
    (every_join (every_replicate (tail_c n) S five.of_S) (every_replicate (tail_a n) W five.of_W)))

pub spelled_syllable : {P : ℕ → Type 0} → OfFive P → (s : Syllable) → Every P (syllable_text s)
unfolding syllable_text
spelled_syllable five HT = more five.of_H (more five.of_T none)
spelled_syllable five SHT = more five.of_S (more five.of_H (more five.of_T none))

pub spelled_syllables : {P : ℕ → Type 0} → OfFive P → (ss : List Syllable) → Every P (syllables_text ss)
unfolding syllables_text
spelled_syllables five [] = none
spelled_syllables five (s ∷ ss) = every_join (spelled_syllable five s) (spelled_syllables five ss)

pub spelled_front : {P : ℕ → Type 0} → OfFive P → (b : Bool) → Every P (front_text b)
unfolding front_text
spelled_front five true = more five.of_T none
spelled_front five false = none

pub spelled_form : {P : ℕ → Type 0} {text : List ℕ} → OfFive P → Form text → Every P text
unfolding form_text
spelled_form {P} five form =
    let p = form.parts in
    rw form.spelled (every_join (spelled_front five p.front) (every_join (spelled_syllables five p.syllables) (spelled_tail five p.tail)))

-- the five are letters
pub five_letters : OfFive (λ b. is_letter b ≡ true)
unfolding is_letter
five_letters = record { of_H = refl; of_S = refl; of_T = refl; of_W = refl; of_X = refl }

pub form_is_letters : {text : List ℕ} → Form text → Letters text
form_is_letters form = spelled_form five_letters form
