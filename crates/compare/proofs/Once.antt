-- The promise of the comparison fixes its answer: two that fit it for one pair are equal, as they are said and as they are
-- given; for accepted strings it says same exactly when the matrices are equal, phase j exactly when A = ω^j B, and different
-- exactly when no power of ω brings B to A. Assumes nothing.
use Prim.Native.Nat.{ℕ, ◌≤◌}
use mathlib.Core.List.{List}
use Rattle.std.specs.Prelude.{Result, Ok, Err}
use mathlib.Core.Logic.{◌↔◌}
use mathlib.Core.Path.{◌≡◌, ap, ap₂, subst}
use Rattle.matrix.specs.Matrix.{Same}
use Rattle.matrix.specs.Letter.{matrix_of}
use Rattle.answer.specs.declared.Refusal.{Refusal}
use Rattle.answer.specs.Refusal.{number, place, refused as refused_said}
use Rattle.answer.proofs.Told.{refusal_told}
use Rattle.alphabet.specs.String.{AcceptedString}
use Rattle.alphabet.proofs.String.{string_refused_once, string_refused_or_accepted}
use Rattle.compare.specs.declared.Which.{Which}
use Rattle.compare.specs.declared.Which.TheVariants.{First, Second}
use Rattle.compare.specs.declared.Relation.{Relation}
use Rattle.compare.specs.declared.Relation.TheVariants.{Same as SameAnswer, Phase, Different}
use Rattle.compare.specs.declared.Refused.{Refused}
use Rattle.compare.specs.Promise.{Verdict, same, phase, different, refused, verdict, PhaseApart, Related, equal, apart, unlike, Compare, first_refused, second_refused, compared}
use Rattle.compare.proofs.Related.{related_once, related_back, back}

-- a refusal, as it is said
refused_as : Which → Refusal → Verdict
refused_as which r = refused which (number r) (place r)

-- two verdicts that both fit the promise are equal
pub compare_said_once : {a b : List ℕ} {v w : Verdict} → Compare a b v → Compare a b w → v ≡ w
unfolding refused_as
compare_said_once (first_refused r) (first_refused s) = ap (refused_as First) (string_refused_once r s)
compare_said_once (first_refused r) (second_refused a s) = absurd (string_refused_or_accepted r a)
compare_said_once (first_refused r) (compared a b s) = absurd (string_refused_or_accepted r a)
compare_said_once (second_refused a r) (first_refused s) = absurd (string_refused_or_accepted s a)
compare_said_once (second_refused a r) (second_refused a' s) = ap (refused_as Second) (string_refused_once r s)
compare_said_once (second_refused a r) (compared a' b s) = absurd (string_refused_or_accepted r b)
compare_said_once (compared a b r) (first_refused s) = absurd (string_refused_or_accepted s a)
compare_said_once (compared a b r) (second_refused a' s) = absurd (string_refused_or_accepted s b)
compare_said_once (compared a b r) (compared a' b' s) = related_once b.letters r s

-- no two answers are said alike
verdict_known : (r s : Result Relation Refused) → verdict r ≡ verdict s → r ≡ s
verdict_known (Ok SameAnswer) (Ok SameAnswer) e = cc
verdict_known (Ok SameAnswer) (Ok (Phase j)) e = cc
verdict_known (Ok SameAnswer) (Ok Different) e = cc
verdict_known (Ok SameAnswer) (Err s) e = cc
verdict_known (Ok (Phase i)) (Ok SameAnswer) e = cc
verdict_known (Ok (Phase i)) (Ok (Phase j)) e = cc
verdict_known (Ok (Phase i)) (Ok Different) e = cc
verdict_known (Ok (Phase i)) (Err s) e = cc
verdict_known (Ok Different) (Ok SameAnswer) e = cc
verdict_known (Ok Different) (Ok (Phase j)) e = cc
verdict_known (Ok Different) (Ok Different) e = cc
verdict_known (Ok Different) (Err s) e = cc
verdict_known (Err r) (Ok SameAnswer) e = cc
verdict_known (Err r) (Ok (Phase j)) e = cc
verdict_known (Err r) (Ok Different) e = cc
verdict_known (Err r) (Err s) e =
    let strings : r.which ≡ s.which = cc in
    let numbers : number r.refusal ≡ number s.refusal = cc in
    let places : place r.refusal ≡ place s.refusal = cc in
    let refusals = refusal_told {A = Verdict} r.refusal s.refusal (ap₂ refused_said numbers places) in
    λ i. Err (record { which = strings i; refusal = refusals i })

-- so the value that is returned is one
pub compare_returns_once : (a b : List ℕ) (r s : Result Relation Refused) → Compare a b (verdict r) → Compare a b (verdict s) → r ≡ s
compare_returns_once a b r s fits fits' = verdict_known r s (compare_said_once fits fits')

-- ---- accepted strings
related_of : {a b : List ℕ} {v : Verdict} → AcceptedString a → AcceptedString b → Compare a b v → Related a b v
related_of good good' (first_refused r) = absurd (string_refused_or_accepted r good)
related_of good good' (second_refused a r) = absurd (string_refused_or_accepted r good')
related_of good good' (compared a b r) = r

related_same : {a b : List ℕ} → Related a b same → Same (matrix_of a) (matrix_of b)
related_same (equal s) = s

related_phase : {a b : List ℕ} {j : ℕ} → Related a b (phase j) → PhaseApart a b j
related_phase (apart low high s) = s

related_different : {a b : List ℕ} → Related a b different → (j : ℕ) → PhaseApart a b j → ⊥
related_different (unlike none) = none

module _ {a b : List ℕ} {v : Verdict} (good : AcceptedString a) (good' : AcceptedString b) (said : Compare a b v) where
  -- what is right is said
  said_if_related : {w : Verdict} → Related a b w → v ≡ w
  said_if_related r = compare_said_once said (compared good good' r)

  related_if_said : {w : Verdict} → v ≡ w → Related a b w
  related_if_said e = subst (Related a b) e (related_of good good' said)

  pub same_exactly_when_equal : v ≡ same ↔ Same (matrix_of a) (matrix_of b)
  same_exactly_when_equal = (λ e. related_same (related_if_said e), λ s. said_if_related (equal s))

  pub phase_exactly_when_apart : (j : ℕ) → 1 ≤ j → j ≤ 7 → v ≡ phase j ↔ PhaseApart a b j
  phase_exactly_when_apart j low high = (λ e. related_phase (related_if_said e), λ s. said_if_related (apart low high s))

  pub different_exactly_when_unlike : v ≡ different ↔ ((j : ℕ) → PhaseApart a b j → ⊥)
  different_exactly_when_unlike = (λ e. related_different (related_if_said e), λ none. said_if_related (unlike none))

  -- the other way round: "phase j" becomes phase 8 − j
  pub said_in_the_other_order : Compare b a (back v)
  said_in_the_other_order = compared good' good (related_back (related_of good good' said))
