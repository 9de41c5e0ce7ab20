-- The string route on a record's letter list answers for the record: the list is never refused, and its form has the
-- record's matrix, phase included. Assumes nothing.
use mathlib.Core.List.{List}
use Prim.Native.Nat.{ℕ, ◌≤◌}
use native.Mathlib.Omega.{arith}
use lib.ListN.{length}
use Rattle.lists.proofs.List.{passes_or_fails}
use Rattle.matrix.specs.declared.Matrix.{Matrix}
use Rattle.matrix.proofs.Same.{same_trans}
use Rattle.alphabet.specs.String.{RefusedString, too_long, bad_letter}
use Rattle.answer.specs.declared.Refusal.{Refusal}
use Rattle.answer.specs.declared.Figures.{Figures}
use Rattle.answer.specs.Limits.{string_limit}
use Rattle.answer.specs.Refusal.{Said}
use Rattle.string_to_form.specs.Promise.{StringToForm, refused_string, with_form}
use Rattle.accepted_to_form.specs.Letters.{Spelt}
use Rattle.accepted_to_form.specs.Promise.{AcceptedToForm}

not_refused : {m : Matrix} {text : List ℕ} {r : Refusal} → Spelt m text → length text ≤ string_limit → RefusedString text r → ⊥
not_refused s within (too_long h) = omega arith
not_refused s within (bad_letter h bad) = passes_or_fails s.letters bad

pub by_string : {m : Matrix} {text before after : List ℕ} {answer : Said Figures} → Spelt m text → length text ≤ string_limit →
    StringToForm text before answer after → AcceptedToForm m before answer after
by_string s within (refused_string r) = absurd (not_refused s within r)
by_string s within (with_form accepted f p) =
    record { text = _; form = f.form; same = same_trans f.same s.same; written = p }
