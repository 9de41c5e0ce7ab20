-- What the form reader says follows from the longest form that a text begins with: the text is a form exactly when that
-- is the whole text, and otherwise the place is its length. Assumes nothing.
use Prim.Native.Nat.{ℕ, ◌≤◌}
use native.Mathlib.Omega.{arith}
use mathlib.Core.List.{List}
use mathlib.Core.Path.{◌≡◌, sym, ap, subst, ◌∙◌}
use lib.ListN as L
use lib.Seq.{take-length}
use Rattle.matrix.specs.Letter.{Letters}
use Rattle.form.specs.Form.{Form, form_text}
use Rattle.answer.specs.declared.Refusal.TheVariants.{NotForm}
use Rattle.answer.specs.Limits.{form_limit}
use Rattle.answer.specs.Refusal.{accepted, refusal}
use Rattle.read_form.specs.declared.Reading.{Reading}
use Rattle.read_form.specs.Promise.{reading_of, LongestPrefix, ReadForm, form, not_form}
use Rattle.read_form.specs.Part.{Any, Longest}

-- the longest form is the whole text
pub whole_text_is_form :
    (text : List ℕ) (r : Reading) → L.length text ≤ form_limit → Longest Any text r → r.figures.length ≡ L.length text →
    ReadForm text (accepted r)
whole_text_is_form text r inside found whole =
    subst (λ (x : Reading). ReadForm text (accepted x)) (sym told)
    (form inside (record { parts = found.parts; in_tails = found.in_tails; spelled = spelled }))
  where
    spelled : text ≡ form_text found.parts
    spelled = sym (take-length text) ∙ ap (λ (n : ℕ). L.take n text) (sym whole) ∙ found.spelled

    told : r ≡ reading_of text found.parts.tail
    told = found.read ∙ ap (λ (t : List ℕ). reading_of t found.parts.tail) (sym spelled)

-- the longest form as a longest prefix
longest_prefix : (text : List ℕ) (r : Reading) → Longest Any text r → LongestPrefix text r.figures.length
longest_prefix text r found =
    record {
      within = found.within;
      form = record { parts = found.parts; in_tails = found.in_tails; spelled = found.spelled };
      longest = λ m inside f. found.longest f.parts m tt f.in_tails inside f.spelled;
    }

-- the longest form is not the whole text
pub shorter_is_refused :
    (text : List ℕ) (r : Reading) → L.length text ≤ form_limit → Letters text → Longest Any text r →
    (r.figures.length ≡ L.length text → ⊥) → ReadForm text (refusal (NotForm r.figures.length))
shorter_is_refused text r inside letters found short = not_form inside letters no_form (longest_prefix text r found)
  where
    no_form : Form text → ⊥
    no_form f =
        let whole = found.longest f.parts (L.length text) tt f.in_tails (omega arith) (take-length text ∙ f.spelled) in
        short (omega (arith, found.within))
