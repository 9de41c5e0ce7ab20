-- What a text's first bytes say: which head of a tail it begins with, and which syllable. Assumes nothing.
use Prim.Native.Nat.{ℕ, zero, suc, ◌≤◌, ◌<◌}
use native.Mathlib.Nat.{not-suc-le-zero}
use native.Mathlib.Omega.{arith}
use mathlib.Core.List.{List, [], ◌∷◌}
use mathlib.Core.Bool.{Bool, true, false, true≢false}
use mathlib.Core.Path.{◌≡◌, refl, sym, ◌∙◌}
use lib.Dec.{eqb}
use Rattle.std.specs.List.{starts_with}
use Rattle.std.proofs.lemmas.Bool.Decides.{Decides-eqb}
use Rattle.std.proofs.lemmas.Slice.Eq.{slice_eq-Decides}
use lib.ListN.{length, take}
use Rattle.matrix.specs.Letter.{H, S, T}
use Rattle.form.specs.Tail.{head_text}
use Rattle.form.specs.Form.{Syllable, HT, SHT, syllable_text}
use Rattle.read_form.specs.Part.{Front, the_first, the_second, neither, Head, LeadingSyllable}
use Rattle.read_form.proofs.Taking.{byte_of_front, front_within}

-- the two answers of `starts_with`
pub does_begin : {r : Bool} (text front : List ℕ) → r ≡ starts_with eqb text front → r ≡ true → take (length front) text ≡ front
does_begin {r} text front told yes_it_does = sym ((slice_eq-Decides Decides-eqb front (take (length front) text) r told).0 yes_it_does)

pub does_not_begin : {r : Bool} (text front : List ℕ) → r ≡ starts_with eqb text front → r ≡ false → take (length front) text ≡ front → ⊥
does_not_begin {r} text front told it_does_not same =
    true≢false (sym ((slice_eq-Decides Decides-eqb front (take (length front) text) r told).1 (sym same)) ∙ it_does_not)

-- texts whose first bytes differ
H_or_S : (text : List ℕ) (s t : List ℕ) → take (length (H ∷ s)) text ≡ H ∷ s → take (length (S ∷ t)) text ≡ S ∷ t → ⊥
H_or_S text s t one other =
    omega (arith, byte_of_front text (H ∷ s) 0 (omega arith) one, byte_of_front text (S ∷ t) 0 (omega arith) other)

-- heads

head_SH : (text : List ℕ) → take 2 text ≡ S ∷ H ∷ [] → Head text 2
unfolding head_text
head_SH text begins =
    record {
      small = omega arith;
      within = front_within text (S ∷ H ∷ []) begins;
      spelled = begins;
      longest = λ k small same. omega arith;
    }

head_H : (text : List ℕ) → take 1 text ≡ H ∷ [] → Head text 1
unfolding head_text
head_H text begins = record { small = omega arith; within = front_within text (H ∷ []) begins; spelled = begins; longest = no_longer }
  where
    no_longer : (k : ℕ) → k < 3 → take k text ≡ head_text k → k ≤ 1
    no_longer zero small same = omega arith
    no_longer (suc zero) small same = omega arith
    no_longer (suc (suc zero)) small same = absurd (H_or_S text [] (H ∷ []) begins same)
    no_longer (suc (suc (suc k))) small same = omega arith

head_none : (text : List ℕ) → (take 2 text ≡ S ∷ H ∷ [] → ⊥) → (take 1 text ≡ H ∷ [] → ⊥) → Head text 0
unfolding head_text
head_none text no_SH no_H = record { small = omega arith; within = omega arith; spelled = refl; longest = no_longer }
  where
    no_longer : (k : ℕ) → k < 3 → take k text ≡ head_text k → k ≤ 0
    no_longer zero small same = omega arith
    no_longer (suc zero) small same = absurd (no_H same)
    no_longer (suc (suc zero)) small same = absurd (no_SH same)
    no_longer (suc (suc (suc k))) small same = omega arith

pub head_front : {text : List ℕ} {n : ℕ} → Front text (S ∷ H ∷ []) (H ∷ []) n → Head text n
head_front {text} (the_first begins) = head_SH text begins
head_front {text} (the_second no_SH begins) = head_H text begins
head_front {text} (neither no_SH no_H) = head_none text no_SH no_H

-- syllables

leading :
    (text : List ℕ) (s : Syllable) → take (length (syllable_text s)) text ≡ syllable_text s →
    LeadingSyllable text (length (syllable_text s))
unfolding syllable_text
leading text s begins =
    record {
      within = front_within text (syllable_text s) begins;
      whole = λ some. (s, refl, begins);
      none = λ empty. absurd (not_empty s empty);
    }
  where
    not_empty : (s : Syllable) → length (syllable_text s) ≡ 0 → ⊥
    not_empty HT e = omega arith
    not_empty SHT e = omega arith

leading_HT : (text : List ℕ) → take 2 text ≡ H ∷ T ∷ [] → LeadingSyllable text 2
unfolding syllable_text
leading_HT text = leading text HT

leading_SHT : (text : List ℕ) → take 3 text ≡ S ∷ H ∷ T ∷ [] → LeadingSyllable text 3
unfolding syllable_text
leading_SHT text = leading text SHT

leading_none :
    (text : List ℕ) → (take 2 text ≡ H ∷ T ∷ [] → ⊥) → (take 3 text ≡ S ∷ H ∷ T ∷ [] → ⊥) → LeadingSyllable text 0
unfolding syllable_text
leading_none text no_HT no_SHT =
    record { within = omega arith; whole = λ some. absurd (not-suc-le-zero some); none = λ empty. neither }
  where
    neither : (s : Syllable) → take (length (syllable_text s)) text ≡ syllable_text s → ⊥
    neither HT = no_HT
    neither SHT = no_SHT

pub leading_front : {text : List ℕ} {n : ℕ} → Front text (H ∷ T ∷ []) (S ∷ H ∷ T ∷ []) n → LeadingSyllable text n
leading_front {text} (the_first begins) = leading_HT text begins
leading_front {text} (the_second no_HT begins) = leading_SHT text begins
leading_front {text} (neither no_HT no_SHT) = leading_none text no_HT no_SHT
