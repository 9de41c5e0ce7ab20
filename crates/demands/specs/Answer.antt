-- What the demands say of an answer: the form that it speaks of, the room that a form needs, and the table's refusals.
use Rattle.std.specs.Prelude.{ℕ, ◌<◌, ◌≤◌, List, ◌≡◌, length, take, drop}
use Rattle.matrix.specs.declared.Matrix.{Matrix}
use Rattle.matrix.specs.Matrix.{Same}
use Rattle.matrix.specs.Letter.{matrix_of}
use Rattle.form.specs.Form.{Form}
use Rattle.form.specs.Count.{t_count, h_count}
use Rattle.answer.specs.declared.Figures.{Figures}
use Rattle.answer.specs.declared.Refusal.{Refusal}
use Rattle.answer.specs.declared.Refusal.TheVariants.{NoRoom}
use Rattle.answer.specs.Refusal.{Said, accepted, number, place}
use Rattle.demands.specs.Input.{Input, Refused, Accepted}

-- an answer with a form: the bytes at the start of the buffer
unfoldable pub form_in : Figures → List ℕ → List ℕ
form_in x after = take x.length after

-- the answer's form has the matrix m, phase included, the figures are those of its text, and the bytes after it stay
pub record Formed (m : Matrix) (before : List ℕ) (x : Figures) (after : List ℕ) : Type 0 where
  pub form : Form (form_in x after)
  pub same : Same (matrix_of (form_in x after)) m
  pub length : x.length ≡ length (form_in x after)
  pub tcount : x.tcount ≡ t_count (form_in x after)
  pub hcount : x.hcount ≡ h_count (form_in x after)
  pub rest : drop x.length after ≡ drop x.length before

-- "enough room lent for its form"
pub record Room (m : Matrix) (before : List ℕ) : Type 0 where
  pub enough : (f : List ℕ) → Form f → Same (matrix_of f) m → length f ≤ length before

-- the answer is a form
pub record Taken (answer : Said Figures) : Type 0 where
  pub figures : Figures
  pub taken : answer ≡ accepted figures

-- the table refuses an input with a lent buffer, by this number and place: for what the input is, or, where it is accepted,
-- for want of room
pub data ByTable (i : Input) (before : List ℕ) : ℕ → ℕ → Type 0 where
  for_the_input : {r : Refusal} → Refused i r → ByTable i before (number r) (place r)
  for_want_of_room :
      {m : Matrix} {f : List ℕ} →
      Accepted i m → Form f → Same (matrix_of f) m → length before < length f →
      ByTable i before (number (NoRoom (length f))) (place (NoRoom (length f)))
