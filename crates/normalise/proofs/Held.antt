-- A text that extends the empty form is normalised as a form of that text, and one with a bad letter is refused. Assumes nothing.
use Prim.Native.Nat.{ℕ, ◌≤◌}
use native.Mathlib.Omega.{arith}
use mathlib.Core.List.{List}
use mathlib.Core.Path.{◌≡◌}
use lib.ListN.{length}
use Rattle.std.specs.Prelude.{Result, Ok, Err, MatchResult, IsErrAnd, ⊤}
use Rattle.std.proofs.lemmas.Result.{err_from_is_err_and}
use Rattle.form.specs.Form.{FormOf}
use Rattle.form.specs.Count.{t_count}
use Rattle.form.proofs.Count.{t_count_within}
use Rattle.answer.specs.Limits.{string_limit}
use Rattle.answer.specs.declared.Refusal.{Refusal}
use Rattle.answer.specs.declared.Refusal.TheVariants.{BadLetter}
use Rattle.alphabet.specs.String.{bad_letter}
use Rattle.extend_form.specs.Spelling.{Spelling, spelled_text}
use Rattle.extend_form.specs.Extend.{Fresh, Extended, ExtendsByText}
use Rattle.extend_form.proofs.Codes.{spelled_form, t_count_kept}
use Rattle.extend_form.proofs.Stack.{fresh_text}
use Rattle.normalise.specs.Normalise.{Normalises}

pub form_taken : {text : List ℕ} {s s' : Spelling} → Fresh s → Extended s text s' → FormOf text (spelled_text s')
form_taken fresh taken = record { form = spelled_form taken.well_formed; same = rw (fresh_text fresh) at taken.extends.same }

module _ (text : List ℕ) (s s' : Spelling) (fresh : Fresh s) (within : length text ≤ string_limit) where
  -- each code has a T of its own
  few_codes : Extended s text s' → length s'.codes ≤ string_limit
  few_codes taken =
      let no_more : t_count (spelled_text s') ≤ t_count text = rw (fresh_text fresh) at taken.extends.no_more_T in
      omega (arith, t_count_kept s', no_more, t_count_within text, within)

  pub normalised : {Names : ℕ → Refusal → Type 0} → ((place : ℕ) (refusal : Refusal) → Names place refusal → refusal ≡ BadLetter place) →
      (extended : Result ⊤ ℕ) (result : Result ⊤ Refusal) → ExtendsByText s text s' extended →
      MatchResult extended (λ done. result ≡ Ok done) (λ place. IsErrAnd result (Names place)) → Normalises text s' result
  normalised names (Err place) result bad told =
      let err = err_from_is_err_and result told in
      rw (err.1, names place err.0 err.2) (bad_letter within bad)
  normalised names (Ok done) result (letters, taken) told =
      rw told (record { accepted = record { within = within; letters = letters }; well_formed = taken.well_formed; few = few_codes taken; form = form_taken fresh taken })
