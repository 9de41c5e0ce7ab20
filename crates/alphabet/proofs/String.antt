-- A string is accepted or refused, never both, and refused in one way only. Assumes nothing.
use mathlib.Core.Path.{◌≡◌, refl, ap}
use mathlib.Core.List.{List}
use Prim.Native.Nat.{ℕ}
use native.Mathlib.Omega.{arith}
use Rattle.lists.proofs.List.{passes_or_fails, fails_once}
use Rattle.answer.specs.declared.Refusal.{Refusal}
use Rattle.answer.specs.declared.Refusal.TheVariants.{BadLetter}
use Rattle.alphabet.specs.String.{AcceptedString, RefusedString, too_long, bad_letter}

pub string_refused_once : {text : List ℕ} {r s : Refusal} → RefusedString text r → RefusedString text s → r ≡ s
string_refused_once (too_long h) (too_long k) = refl
string_refused_once (too_long h) (bad_letter k b) = absurd (omega arith)
string_refused_once (bad_letter h b) (too_long k) = absurd (omega arith)
string_refused_once (bad_letter h b) (bad_letter k c) = ap BadLetter (fails_once b c)

pub string_refused_or_accepted : {text : List ℕ} {r : Refusal} → RefusedString text r → AcceptedString text → ⊥
string_refused_or_accepted (too_long h) a = let within = a.within in omega arith
string_refused_or_accepted (bad_letter h b) a = passes_or_fails a.letters b
