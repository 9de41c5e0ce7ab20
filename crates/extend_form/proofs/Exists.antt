-- Every letter list has a form, with no more T's than the list, whatever its length; and a form's length is bounded by
-- its T's, so n letters give at most 3n + 13 bytes. Assumes nothing.
use Prim.Native.Nat.{ℕ, zero, suc, ◌+◌, ◌*◌, ◌≤◌, ◌<◌}
use native.Mathlib.Omega.{arith}
use mathlib.Core.Bool.{Bool, true, false}
use mathlib.Core.List.{List, [], ◌∷◌, ◌++◌}
use mathlib.Core.Path.{◌≡◌, refl}
use borrow.Author.Tests.{eqb-true, eqb-false}
use lib.Dec.{eqb, lit<}
use lib.ListN.{length}
use Rattle.lists.specs.List.{none, more}
use Rattle.matrix.specs.Letter.{T, Letters, is_letter}
use Rattle.form.specs.Tail.{tails, tail_h, head_text, tail_text}
use Rattle.form.specs.Form.{Form, FormOf}
use Rattle.form.specs.Count.{t_count}
use Rattle.form.proofs.Count.{t_count_within, form_is_short}
use Rattle.tail.proofs.Columns.{column_found}
use Rattle.tail.proofs.Closure.{product_is_tail}
use Rattle.tail.proofs.Passing.{passed, joined, passed_T, joined_T}
use Rattle.extend_form.specs.Spelling.{Codes, no_codes, front, HT_above, SHT_above, codes_text}
use Rattle.extend_form.specs.Extend.{Extends}
use Rattle.extend_form.proofs.Spelling.{codes_form}
use Rattle.extend_form.proofs.Step.{tail_multiplied, code_pushed, code_popped, extends_none, extends_more}

-- codes and a tail that extend others by a letter
record Next (codes : List ℕ) (n letter : ℕ) : Type 0 where
  next_codes : List ℕ
  good : Codes next_codes
  tail : ℕ
  in_tails : tail < tails
  extends : Extends (codes_text codes ++ tail_text n) (letter ∷ []) (codes_text next_codes ++ tail_text tail)

next_tail : {codes : List ℕ} (n b : ℕ) → Codes codes → n < tails → is_letter b ≡ true → (b ≡ T → ⊥) → Next codes n b
next_tail {codes} n b good n< letter other =
    let column = column_found b letter other in
    let found = product_is_tail n _ n< column.in_columns in
    let product = rw column.stands at found.1 in
    record {
      next_codes = codes;
      good = good;
      tail = found.0;
      in_tails = product.in_tails;
      extends = tail_multiplied codes n b found.0 product;
    }

pushed : {codes : List ℕ} (n : ℕ) → n < tails → Codes (tail_h n ∷ codes) → Next codes n T
pushed {codes} n n< good =
    let past = passed_T n n< in
    let headless = past.headless in
    record {
      next_codes = tail_h n ∷ codes;
      good = good;
      tail = passed n;
      in_tails = omega arith;
      extends = code_pushed codes n (passed n) past;
    }

popped : {below : List ℕ} (code n : ℕ) → Codes below → code < 3 → tail_h n ≡ 0 → Next (code ∷ below) n T
popped {below} code n good code< headless =
    let between = joined_T n (omega arith) in
    let headless' = between.headless in
    record {
      next_codes = below;
      good = good;
      tail = 64 * code + joined n;
      in_tails = omega arith;
      extends = code_popped below code n (joined n) between;
    }

next_T : {codes : List ℕ} (n h : ℕ) → Codes codes → n < tails → tail_h n ≡ h → Next codes n T
next_T n (suc zero) good n< e = pushed n n< (rw e (HT_above good))
next_T n (suc (suc zero)) good n< e = pushed n n< (rw e (SHT_above good))
next_T n (suc (suc (suc h))) good n< e = absurd (omega arith)
next_T n zero no_codes n< e = pushed n n< (rw e front)
next_T n zero front n< e = popped 0 n no_codes (lit< tt) e
next_T n zero (HT_above below) n< e = popped 1 n below (lit< tt) e
next_T n zero (SHT_above below) n< e = popped 2 n below (lit< tt) e

next : {codes : List ℕ} (n b : ℕ) → Codes codes → n < tails → is_letter b ≡ true → (t : Bool) → eqb b T ≡ t → Next codes n b
next {codes} n b good n< letter true e = rw (eqb-true b T e) (next_T n (tail_h n) good n< refl)
next n b good n< letter false e = next_tail n b good n< letter (eqb-false b T e)

-- a form extended by letters is a form
extended_by :
    {codes w : List ℕ} (n : ℕ) → Codes codes → n < tails → Letters w →
    (f : List ℕ) × Form f × Extends (codes_text codes ++ tail_text n) w f
extended_by {codes} n good n< none =
    let f = codes_text codes ++ tail_text n in (f, codes_form good n<, extends_none f)
extended_by {codes = codes} n good n< (more {a = b} letter rest) =
    let step = next n b good n< letter (eqb b T) refl in
    let found = extended_by {codes = step.next_codes} step.tail step.good step.in_tails rest in
    (found.0, found.1, extends_more step.extends found.2)

-- every letter list has a form, with no more T's
pub form_exists : (w : List ℕ) → Letters w → (f : List ℕ) × FormOf w f × (t_count f ≤ t_count w)
unfolding codes_text tail_text head_text
form_exists w letters =
    let found = extended_by {codes = []} 0 no_codes (lit< tt) letters in
    (found.0, record { form = found.1; same = found.2.same }, found.2.no_more_T)

-- a form's length is bounded by its T's
pub form_length : {f : List ℕ} → Form f → length f ≤ 3 * t_count f + 13
form_length form = rw form.spelled (form_is_short form.parts)

-- "a form made from n letters has at most 3n + 13 bytes"
pub form_length_within : {f : List ℕ} (w : List ℕ) → Form f → t_count f ≤ t_count w → length f ≤ 3 * length w + 13
form_length_within w form h = omega (arith, form_length form, t_count_within w)
