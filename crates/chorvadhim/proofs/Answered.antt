-- What a call returns is answered by the word of its values or of its refusal. Assumes nothing.
use Prim.Native.Nat.{ℕ}
use mathlib.Core.Path.{◌≡◌, subst}
use Rattle.std.specs.Prelude.{Result, Ok, Err, MatchResult}
use Rattle.std.specs.Result.{ForOk, ForErr}
use Rattle.answer.specs.declared.Refusal.{Refusal}
use Rattle.answer.specs.Refusal.{number, place, said}
use Rattle.compare.specs.declared.Relation.{Relation}
use Rattle.compare.specs.declared.Refused.{Refused}
use Rattle.compare.specs.Promise.{verdict}
use Rattle.chorvadhim.specs.Word.{packed, refusal_word, verdict_word, Legible, LegibleRefusal, LegibleVerdict}

-- values and refusals that are legible may be packed
pub may_pack :
    {A : Type 0} (LegibleAs : A → Type 0) (r : Result A Refusal) → Legible LegibleAs (said r) →
    ForErr r (λ e. LegibleRefusal (number e) (place e)) × ForOk r LegibleAs
may_pack LegibleAs r legible =
    (λ e is. subst (λ r. Legible LegibleAs (said r)) is legible, λ x is. subst (λ r. Legible LegibleAs (said r)) is legible)

pub may_pack_verdict :
    (r : Result Relation Refused) → LegibleVerdict (verdict r) →
    ForErr r (λ e. LegibleVerdict (verdict (Err e))) × ForOk r (λ x. LegibleVerdict (verdict (Ok x)))
may_pack_verdict r legible =
    (λ e is. subst (λ r. LegibleVerdict (verdict r)) is legible, λ x is. subst (λ r. LegibleVerdict (verdict r)) is legible)

-- each case of what was returned, packed
pub packed_by_cases :
    {A : Type 0} (word_of : A → ℕ) {word : ℕ} (r : Result A Refusal) →
    MatchResult r (λ x. word ≡ word_of x) (λ e. word ≡ refusal_word (number e) (place e)) → word ≡ packed word_of (said r)
packed_by_cases word_of (Ok x) says = says
packed_by_cases word_of (Err e) says = says

pub verdict_packed_by_cases :
    {word : ℕ} (r : Result Relation Refused) →
    MatchResult r (λ x. word ≡ verdict_word (verdict (Ok x))) (λ e. word ≡ verdict_word (verdict (Err e))) →
    word ≡ verdict_word (verdict r)
verdict_packed_by_cases (Ok x) says = says
verdict_packed_by_cases (Err e) says = says
