-- Two forms as they are compared: they are apart by ω^j exactly when their codes agree and the first tail is the second with j W's
-- more. Assumes nothing.
use Prim.Native.Nat.{ℕ, ◌+◌, ◌/◌, ◌%◌, ◌≤◌, ◌<◌}
use native.Mathlib.Omega.{arith}
use mathlib.Core.List.{List, ◌++◌, reverse}
use mathlib.Core.Logic.{◌⊎◌, inl, inr}
use mathlib.Core.Path.{◌≡◌, sym, ap, ap₂, subst, subst₂, ◌∙◌}
use Rattle.std.proofs.lemmas.List.{reverse-reverse}
use Rattle.matrix.specs.Matrix.{Same}
use Rattle.matrix.specs.Letter.{matrix_of}
use Rattle.matrix.proofs.Same.{same_of_equal}
use Rattle.form.specs.Tail.{tails, tail_a, tail_text}
use Rattle.form.proofs.Count.{t_count_tail}
use Rattle.form.proofs.Grammar.{tails_distinct}
use Rattle.extend_form.specs.Spelling.{Spelling, Codes, codes_text, spelled_text, WellFormed}
use Rattle.extend_form.proofs.Spelling.{codes_form}
use Rattle.extend_form.proofs.Kept.{seen}
use Rattle.extend_form.proofs.Known.{codes_known}
use Rattle.unique.proofs.Unique.{forms_are_unique}
use Rattle.compare.specs.Promise.{Verdict, same, phase, different, PhaseApart, Related, equal, apart, unlike}
use Rattle.compare.proofs.Phase.{with_Ws, with_Ws_known, with_Ws_in_tails, phased_text}
use Rattle.compare.proofs.Related.{equal_by_none}

-- the codes agree, and the first tail is the second with j W's more
pub record Agree (s s' : Spelling) (j : ℕ) : Type 0 where
  pub codes : s.codes ≡ s'.codes
  pub tail : s.tail ≡ with_Ws s'.tail j

module _ (s s' : Spelling) where
  apart_when_agree : (j : ℕ) → Agree s s' j → PhaseApart (spelled_text s) (spelled_text s') j
  unfolding spelled_text
  apart_when_agree j agree =
      same_of_equal
      (ap₂ (λ (codes : List ℕ) (n : ℕ). matrix_of (codes_text codes ++ tail_text n)) agree.codes agree.tail
      ∙ sym (phased_text (codes_text s'.codes) s'.tail j))

  -- by uniqueness the texts are equal, and a text is normalised in one way
  agree_when_apart : WellFormed s → WellFormed s' → (j : ℕ) → PhaseApart (spelled_text s) (spelled_text s') j → Agree s s' j
  unfolding spelled_text
  agree_when_apart good good' j p =
      let n = with_Ws s'.tail j in
      let in_tails = with_Ws_in_tails s'.tail j good'.in_tails in
      let text = forms_are_unique (codes_text s.codes ++ tail_text s.tail) (codes_text s'.codes ++ tail_text n)
      (codes_form good.codes good.in_tails) (codes_form good'.codes in_tails)
      (subst (Same (matrix_of (codes_text s.codes ++ tail_text s.tail))) (phased_text (codes_text s'.codes) s'.tail j) p) in
      let (known, tail) = codes_known s.codes s'.codes (tail_text s.tail) (tail_text n) good.codes good'.codes
      (t_count_tail s.tail) (t_count_tail n) text in
      record { codes = known; tail = tails_distinct s.tail n good.in_tails in_tails tail }

  equal_forms : Agree s s' 0 → Related (spelled_text s) (spelled_text s') same
  equal_forms agree = equal (equal_by_none (spelled_text s) (spelled_text s') (apart_when_agree 0 agree))

  apart_forms : (j : ℕ) → 1 ≤ j → j ≤ 7 → Agree s s' j → Related (spelled_text s) (spelled_text s') (phase j)
  apart_forms j low high agree = apart low high (apart_when_agree j agree)

  unlike_forms : WellFormed s → WellFormed s' → ((j : ℕ) → Agree s s' j → ⊥) → Related (spelled_text s) (spelled_text s') different
  unlike_forms good good' none = unlike (λ j p. none j (agree_when_apart good good' j p))

-- what the tests of the codes and of the tails find, where the codes are kept with the last at the end
module _ (s s' : Spelling) (codes codes' : List ℕ) (n n' : ℕ) (view : seen codes n ≡ s) (view' : seen codes' n' ≡ s') where
  seen_related : {v : Verdict} → Related (spelled_text (seen codes n)) (spelled_text (seen codes' n')) v → Related (spelled_text s) (spelled_text s') v
  seen_related {v} r = subst₂ (λ (t t' : Spelling). Related (spelled_text t) (spelled_text t') v) view view' r

  seen_agree : (j : ℕ) → codes ≡ codes' → n / 8 ≡ n' / 8 → (tail_a n' + j) % 8 ≡ tail_a n → Agree (seen codes n) (seen codes' n') j
  seen_agree j same_codes before Ws = record { codes = ap reverse same_codes; tail = with_Ws_known n n' j before Ws }

  pub equal_by_tests : (j : ℕ) → codes ≡ codes' → n / 8 ≡ n' / 8 → (tail_a n' + j) % 8 ≡ tail_a n → j ≡ 0 →
      Related (spelled_text s) (spelled_text s') same
  equal_by_tests j same_codes before Ws none =
      seen_related (equal_forms (seen codes n) (seen codes' n')
      (subst (Agree (seen codes n) (seen codes' n')) none (seen_agree j same_codes before Ws)))

  pub apart_by_tests : (j : ℕ) → codes ≡ codes' → n / 8 ≡ n' / 8 → (tail_a n' + j) % 8 ≡ tail_a n → 1 ≤ j → j ≤ 7 →
      Related (spelled_text s) (spelled_text s') (phase j)
  apart_by_tests j same_codes before Ws low high =
      seen_related (apart_forms (seen codes n) (seen codes' n') j low high (seen_agree j same_codes before Ws))

  module _ (good : Codes (reverse codes)) (in_tails : n < tails) (good' : Codes (reverse codes')) (in_tails' : n' < tails) where
    unlike_seen : ((j : ℕ) → Agree (seen codes n) (seen codes' n') j → ⊥) → Related (spelled_text s) (spelled_text s') different
    unlike_seen none =
        seen_related (unlike_forms (seen codes n) (seen codes' n') (record { codes = good; in_tails = in_tails })
        (record { codes = good'; in_tails = in_tails' }) none)

    pub unlike_by : ((codes ≡ codes' → ⊥) ⊎ (n / 8 ≡ n' / 8 → ⊥)) → Related (spelled_text s) (spelled_text s') different
    unlike_by (inl differ) =
        unlike_seen (λ j agree. differ (sym (reverse-reverse codes) ∙ ap reverse agree.codes ∙ reverse-reverse codes'))
    unlike_by (inr differ) = unlike_seen (λ j agree. let tail = agree.tail in differ (omega arith))
