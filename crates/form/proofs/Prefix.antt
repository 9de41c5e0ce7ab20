-- "Each prefix of a form is a form." A prefix of a tail is a tail, one of a syllable too (nothing, H, S or SH), and a
-- prefix of the rest after a front or a syllable is again such a rest. Assumes nothing.
use Prim.Native.Nat.{ℕ, zero, suc, ◌-◌, ◌<◌, min}
use native.Mathlib.Nat.{zero-sub, sub-zero, suc-sub-suc, zero-min, min-zero, suc-min-suc}
use native.Mathlib.Omega.{arith}
use mathlib.Core.Bool.{Bool, true, false}
use mathlib.Core.List.{List, [], ◌∷◌, ◌++◌, append_assoc}
use mathlib.Core.Path.{◌≡◌, refl, sym, ap, ◌∙◌}
use lib.ListN.{length, take, replicate, length-replicate}
use lib.Seq.{take-nil}
use Rattle.matrix.specs.Letter.{H, S, W, X}
use Rattle.form.specs.Tail.{tails, tail_h, tail_b, tail_c, tail_a, head_text, tail_text}
use Rattle.form.specs.Form.{Syllable, HT, SHT, Form, syllable_text, syllables_text, front_text, form_text}
use Rattle.form.proofs.Grammar.{tail_number, tail_spelled}

-- taking from two texts in a row
take_across : (n : ℕ) (s t : List ℕ) → take n (s ++ t) ≡ take n s ++ take (n - length s) t
take_across n [] t = sym (simp (take-nil, sub-zero))
take_across zero (b ∷ s) t = simp zero-sub
take_across (suc n) (b ∷ s) t = simp (suc-sub-suc, take_across n s t)

take_replicate : (n m b : ℕ) → take n (replicate m b) ≡ replicate (min n m) b
take_replicate zero m b = simp zero-min
take_replicate (suc n) zero b = simp min-zero
take_replicate (suc n) (suc m) b = simp (suc-min-suc, take_replicate n m b)

-- the text after a tail's head
abbrev end_text : ℕ → ℕ → ℕ → List ℕ
end_text b c a = replicate b X ++ (replicate c S ++ replicate a W)

take_end : (n b c a : ℕ) → take n (end_text b c a) ≡ end_text (min n b) (min (n - b) c) (min (n - b - c) a)
take_end n b c a = simp (take_across, take_replicate, length-replicate)

-- a text that is a tail
pub record Tail (text : List ℕ) : Type 0 where
  pub number : ℕ
  pub in_tails : number < tails
  pub spelled : text ≡ tail_text number

tail_of : (h b c a : ℕ) → h < 3 → b < 2 → c < 4 → a < 8 → Tail (head_text h ++ end_text b c a)
tail_of h b c a h3 b2 c4 a8 =
    record { number = tail_number h b c a; in_tails = omega arith; spelled = sym (tail_spelled h b c a b2 c4 a8) }

no_bytes : Tail []
unfolding head_text
no_bytes = tail_of 0 0 0 0 (omega arith) (omega arith) (omega arith) (omega arith)

one_S : Tail (S ∷ [])
unfolding head_text
one_S = tail_of 0 0 1 0 (omega arith) (omega arith) (omega arith) (omega arith)

one_H : Tail (H ∷ [])
unfolding head_text
one_H = tail_of 1 0 0 0 (omega arith) (omega arith) (omega arith) (omega arith)

S_and_H : Tail (S ∷ H ∷ [])
unfolding head_text
S_and_H = tail_of 2 0 0 0 (omega arith) (omega arith) (omega arith) (omega arith)

-- the part of an end that n bytes hold, after a head
shorter :
    (h b c a n : ℕ) → h < 3 → b < 2 → c < 4 → a < 8 → Tail (head_text h ++ take n (end_text b c a))
shorter h b c a n h3 b2 c4 a8 =
    rw (take_end n b c a)
    (tail_of h (min n b) (min (n - b) c) (min (n - b - c) a) h3 (omega arith) (omega arith) (omega arith))

take_tail : (h b c a n : ℕ) → h < 3 → b < 2 → c < 4 → a < 8 → Tail (take n (head_text h ++ end_text b c a))
unfolding head_text
take_tail zero b c a n h3 b2 c4 a8 = shorter 0 b c a n h3 b2 c4 a8
take_tail (suc zero) b c a zero h3 b2 c4 a8 = no_bytes
take_tail (suc zero) b c a (suc n) h3 b2 c4 a8 = shorter 1 b c a n h3 b2 c4 a8
take_tail (suc (suc h)) b c a zero h3 b2 c4 a8 = no_bytes
take_tail (suc (suc h)) b c a (suc zero) h3 b2 c4 a8 = one_S
take_tail (suc (suc h)) b c a (suc (suc n)) h3 b2 c4 a8 = shorter (suc (suc h)) b c a n h3 b2 c4 a8

-- "Each prefix of a form is a form": of a tail
pub tail_prefix : {text : List ℕ} → Tail text → (n : ℕ) → Tail (take n text)
unfolding tail_text
tail_prefix t n =
    rw t.spelled
    (take_tail (tail_h t.number) (tail_b t.number) (tail_c t.number) (tail_a t.number) n
    (omega arith) (omega arith) (omega arith) (omega arith))

-- a text of syllables and a tail, with no front
pub record Rest (text : List ℕ) : Type 0 where
  pub syllables : List Syllable
  pub tail : ℕ
  pub in_tails : tail < tails
  pub spelled : text ≡ syllables_text syllables ++ tail_text tail

pub rest_of_tail : {text : List ℕ} → Tail text → Rest text
unfolding syllables_text
rest_of_tail t = record { syllables = []; tail = t.number; in_tails = t.in_tails; spelled = t.spelled }

pub rest_after_syllable : {text : List ℕ} (s : Syllable) → Rest text → Rest (syllable_text s ++ text)
unfolding syllables_text
rest_after_syllable s r =
    record {
      syllables = s ∷ r.syllables;
      tail = r.tail;
      in_tails = r.in_tails;
      spelled =
          ap (λ (t : List ℕ). syllable_text s ++ t) r.spelled
          ∙ sym (append_assoc (syllable_text s) (syllables_text r.syllables) (tail_text r.tail));
    }

pub form_of_rest : {text : List ℕ} (b : Bool) → Rest text → Form (front_text b ++ text)
unfolding form_text
form_of_rest b r =
    record {
      parts = record { front = b; syllables = r.syllables; tail = r.tail };
      in_tails = r.in_tails;
      spelled = ap (λ (t : List ℕ). front_text b ++ t) r.spelled;
    }

rest_prefix : (ss : List Syllable) (m n : ℕ) → m < tails → Rest (take n (syllables_text ss ++ tail_text m))
unfolding syllables_text syllable_text
rest_prefix [] m n below = rest_of_tail (tail_prefix (record { number = m; in_tails = below; spelled = refl }) n)
rest_prefix (HT ∷ ss) m zero below = rest_of_tail no_bytes
rest_prefix (HT ∷ ss) m (suc zero) below = rest_of_tail one_H
rest_prefix (HT ∷ ss) m (suc (suc n)) below = rest_after_syllable HT (rest_prefix ss m n below)
rest_prefix (SHT ∷ ss) m zero below = rest_of_tail no_bytes
rest_prefix (SHT ∷ ss) m (suc zero) below = rest_of_tail one_S
rest_prefix (SHT ∷ ss) m (suc (suc zero)) below = rest_of_tail S_and_H
rest_prefix (SHT ∷ ss) m (suc (suc (suc n))) below = rest_after_syllable SHT (rest_prefix ss m n below)

take_form : (b : Bool) (ss : List Syllable) (m n : ℕ) → m < tails → Form (take n (front_text b ++ (syllables_text ss ++ tail_text m)))
unfolding front_text
take_form true ss m zero below = form_of_rest false (rest_of_tail no_bytes)
take_form true ss m (suc n) below = form_of_rest true (rest_prefix ss m n below)
take_form false ss m n below = form_of_rest false (rest_prefix ss m n below)

-- "Each prefix of a form is a form."
pub form_prefix : {text : List ℕ} → Form text → (n : ℕ) → Form (take n text)
unfolding form_text
form_prefix f n =
    rw f.spelled (take_form f.parts.front f.parts.syllables f.parts.tail n f.in_tails)
