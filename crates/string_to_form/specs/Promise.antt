-- Document 01, "Refusals": string to form, in the order 2, 1, 3.
use Rattle.std.specs.Prelude.{ℕ, List}
use Rattle.form.specs.Form.{FormOf}
use Rattle.answer.specs.declared.Refusal.{Refusal}
use Rattle.answer.specs.declared.Figures.{Figures}
use Rattle.answer.specs.Refusal.{Said, refusal}
use Rattle.answer.specs.Written.{PutForm}
use Rattle.alphabet.specs.String.{AcceptedString, RefusedString}

-- What string to form may say of a text and a lent buffer, and the buffer that it leaves: a refusal of the string; else
-- a form of the letter list, written or refused for want of room.
pub data StringToForm (text before : List ℕ) : Said Figures → List ℕ → Type 0 where
  refused_string : {r : Refusal} → RefusedString text r → StringToForm text before (refusal r) before
  with_form :
      {f : List ℕ} {answer : Said Figures} {after : List ℕ} →
      AcceptedString text → FormOf text f → PutForm f before answer after → StringToForm text before answer after
