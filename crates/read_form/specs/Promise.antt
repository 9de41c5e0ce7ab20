-- Document 01, "Refusals": the form reader, in the order 2, 1, 7.
use Rattle.std.specs.Prelude.{ℕ, ◌<◌, ◌≤◌, List}
use Rattle.std.proofs.Math.ListN as L
use Rattle.matrix.specs.Letter.{Letters, FirstBad}
use Rattle.form.specs.Form.{Form}
use Rattle.answer.specs.declared.Refusal.TheVariants.{BadLetter, TooLong, NotForm}
use Rattle.answer.specs.Limits.{form_limit}
use Rattle.answer.specs.Refusal.{Said, accepted, refusal}
use Rattle.answer.specs.Written.{figures_of}
use Rattle.read_form.specs.declared.Reading.{Reading}

-- "The form reader answers length, T-count, H-count and tail number."
unfoldable pub reading_of : List ℕ → ℕ → Reading
reading_of text tail = record { figures = figures_of text; tail = tail }

-- "length of the longest prefix that is a form"
pub record LongestPrefix (text : List ℕ) (n : ℕ) : Type 0 where
  pub within : n ≤ L.length text
  pub form : Form (L.take n text)
  pub longest : (m : ℕ) → m ≤ L.length text → Form (L.take m text) → m ≤ n

-- what the form reader may say of a text
pub data ReadForm (text : List ℕ) : Said Reading → Type 0 where
  too_long : form_limit < L.length text → ReadForm text (refusal (TooLong form_limit))
  bad_letter : {p : ℕ} → L.length text ≤ form_limit → FirstBad text p → ReadForm text (refusal (BadLetter p))
  not_form :
      {n : ℕ} → L.length text ≤ form_limit → Letters text → (Form text → ⊥) → LongestPrefix text n →
      ReadForm text (refusal (NotForm n))
  form : L.length text ≤ form_limit → (f : Form text) → ReadForm text (accepted (reading_of text f.parts.tail))
