-- The form reader's promise fixes its answer: two answers that fit it for one text are equal, as they are said and as they
-- are given; and a text within the limit is accepted exactly when it is a form. Assumes nothing.
use Prim.Native.Nat.{ℕ, ◌≤◌}
use native.Mathlib.Omega.{arith}
use mathlib.Core.List.{List}
use mathlib.Core.Logic.{◌↔◌}
use mathlib.Core.Path.{◌≡◌, refl, ap}
use lib.ListN as L
use Rattle.std.specs.Prelude.{Result}
use Rattle.lists.proofs.List.{passes_or_fails, fails_once}
use Rattle.form.specs.Form.{Form, Parts}
use Rattle.form.proofs.Grammar.{form_parts_unique}
use Rattle.form.proofs.Spelled.{form_is_letters}
use Rattle.answer.specs.declared.Refusal.{Refusal}
use Rattle.answer.specs.Limits.{form_limit}
use Rattle.answer.specs.Refusal.{Said, accepted, refused, said}
use Rattle.read_form.specs.declared.Reading.{Reading}
use Rattle.read_form.specs.Promise.{reading_of, LongestPrefix, ReadForm, too_long, bad_letter, not_form, form}
use Rattle.answer.proofs.Told.{said_told}

-- the longest prefix has one length
pub longest_prefix_once : {text : List ℕ} {m n : ℕ} → LongestPrefix text m → LongestPrefix text n → m ≡ n
longest_prefix_once {m = m} {n = n} p q =
    let less : m ≤ n = q.longest m p.within p.form in
    let more : n ≤ m = p.longest n q.within q.form in
    omega arith

form_reads_once : {text : List ℕ} (f g : Form text) → reading_of text f.parts.tail ≡ reading_of text g.parts.tail
form_reads_once {text} f g = ap (λ (p : Parts). reading_of text p.tail) (form_parts_unique f g)

-- two answers that both fit the promise are equal
pub read_form_said_once : {text : List ℕ} {a b : Said Reading} → ReadForm text a → ReadForm text b → a ≡ b
read_form_said_once (too_long h) (too_long k) = refl
read_form_said_once (too_long h) (bad_letter k q) = absurd (omega arith)
read_form_said_once (too_long h) (not_form k l n q) = absurd (omega arith)
read_form_said_once (too_long h) (form k g) = absurd (omega arith)
read_form_said_once (bad_letter h p) (too_long k) = absurd (omega arith)
read_form_said_once (bad_letter h p) (bad_letter k q) = ap (refused 1) (fails_once p q)
read_form_said_once (bad_letter h p) (not_form k l n q) = absurd (passes_or_fails l p)
read_form_said_once (bad_letter h p) (form k g) = absurd (passes_or_fails (form_is_letters g) p)
read_form_said_once (not_form h l n p) (too_long k) = absurd (omega arith)
read_form_said_once (not_form h l n p) (bad_letter k q) = absurd (passes_or_fails l q)
read_form_said_once (not_form h l n p) (not_form k l' n' q) = ap (refused 7) (longest_prefix_once p q)
read_form_said_once (not_form h l n p) (form k g) = absurd (n g)
read_form_said_once (form h f) (too_long k) = absurd (omega arith)
read_form_said_once (form h f) (bad_letter k q) = absurd (passes_or_fails (form_is_letters f) q)
read_form_said_once (form h f) (not_form k l n q) = absurd (n f)
read_form_said_once (form h f) (form k g) = ap accepted (form_reads_once f g)

-- so the value that is returned is one
pub read_form_returns_once : (text : List ℕ) (r s : Result Reading Refusal) → ReadForm text (said r) → ReadForm text (said s) → r ≡ s
read_form_returns_once text r s fits fits' = said_told r s (read_form_said_once fits fits')

-- what is accepted is a form within the limit, read as it is
pub record Accepted (text : List ℕ) (reading : Reading) : Type 0 where
  pub within : L.length text ≤ form_limit
  pub form : Form text
  pub read : reading ≡ reading_of text form.parts.tail

accepted_is_form : {text : List ℕ} {reading : Reading} → ReadForm text (accepted reading) → Accepted text reading
accepted_is_form (form h f) = record { within = h; form = f; read = refl }

-- "accepted exactly when the text is a form"
pub accepted_exactly_forms :
    (text : List ℕ) (reading : Reading) → ReadForm text (accepted reading) ↔ Accepted text reading
accepted_exactly_forms text reading = (accepted_is_form, λ a. rw a.read (form a.within a.form))

-- a form within the limit is never refused
pub form_is_accepted :
    {text : List ℕ} {answer : Said Reading} → (f : Form text) → L.length text ≤ form_limit → ReadForm text answer →
    answer ≡ accepted (reading_of text f.parts.tail)
form_is_accepted f inside fits = read_form_said_once fits (form inside f)
