-- What a string gives before anything is written: a refusal, 2 then 1, or its form, as codes and a tail spell it.
use Rattle.std.specs.Prelude.{ℕ, ◌≤◌, List, Result, Ok, Err, ⊤, length}
use Rattle.form.specs.Form.{FormOf}
use Rattle.answer.specs.declared.Refusal.{Refusal}
use Rattle.answer.specs.Limits.{string_limit}
use Rattle.alphabet.specs.String.{AcceptedString, RefusedString}
use Rattle.extend_form.specs.Spelling.{Spelling, spelled_text, WellFormed}

-- an accepted string, and the codes and the tail that spell its form
pub record HeldForm (text : List ℕ) (s : Spelling) : Type 0 where
  pub accepted : AcceptedString text
  pub well_formed : WellFormed s
  pub few : length s.codes ≤ string_limit
  pub form : FormOf text (spelled_text s)

-- what a string gives: its form, or a refusal
abbrev pub Normalises : List ℕ → Spelling → Result ⊤ Refusal → Type 0
Normalises text s (Ok _) = HeldForm text s
Normalises text s (Err refusal) = RefusedString text refusal
