-- `write_form::write_form` meets its contract: the length is known before the first letter is put. Assumes nothing.
use borrow.Author.Rules.{rules}
use native.Mathlib.Omega.{arith}
use mathlib.Core.Path.{ap, ◌∙◌}
use mathlib.Core.List.{List, reverse}
use Prim.Native.Nat.{ℕ}
use lib.ListN.{length}
use Rattle.form.specs.Tail.{tail_text}
use Rattle.form.proofs.Count.{tail_is_short}
use Rattle.extend_form.specs.Spelling.{Codes, codes_text}
use Rattle.extend_form.proofs.Kept.{seen}
use Rattle.place.proofs.Written.{room_after}
use Rattle.write_form.proofs.Codes.{codes_counted, codes_short, h_count_seen}
use Rattle.write_form.proofs.Put.{seen_length, seen_count, form_refused, form_put}
use Rattle.write_form.proofs.write_form.Goals as goal

pub codes_length-requires : goal.codes_length-requires
codes_length-requires g c =
    let codes = c.as_slice-codes.result.now in
    let view = ap (λ (k : List ℕ). seen k c.form.inside.tail.number) c.as_slice-codes.ensures.value ∙ c.form.view_is in
    let good : Codes (reverse codes) = rw c.as_slice-codes.ensures.value c.form.invariant in
    omega (arith, c.requires, seen_count _ codes _ view, codes_counted codes good, codes_short codes)

pub overflow_add-length : goal.overflow_add-length
overflow_add-length g c =
    let codes = c.as_slice-codes.result.now in
    let view = ap (λ (k : List ℕ). seen k c.form.inside.tail.number) c.as_slice-codes.ensures.value ∙ c.form.view_is in
    let good : Codes (reverse codes) = rw c.as_slice-codes.ensures.value c.form.invariant in
    omega (
      arith,
      c.requires,
      seen_count _ codes _ view,
      c.codes_length.ensures,
      c.tail_length.ensures,
      codes_counted codes good,
      codes_short codes,
      tail_is_short c.form.inside.tail.number,
    )

pub returns-then-buffer-length : goal.returns-then-buffer-length
returns-then-buffer-length g c =
    let codes = c.as_slice-codes.result.now in
    let n = c.form.inside.tail.number in
    let view = ap (λ (k : List ℕ). seen k n) c.as_slice-codes.ensures.value ∙ c.form.view_is in
    let good : Codes (reverse codes) = rw c.as_slice-codes.ensures.value c.form.invariant in
    form_refused _ codes n view _ (seen_length _ codes n view (c.codes_length.ensures ∙ codes_counted codes good) c.tail_length.ensures)
    c.if-buffer-length.true

pub write_codes-requires : goal.write_codes-requires
write_codes-requires g c =
    let codes = c.as_slice-codes.result.now in
    let good : Codes (reverse codes) = rw c.as_slice-codes.ensures.value c.form.invariant in
    omega (
      arith,
      c.new-page.ensures.place,
      ap length c.new-page.ensures.now,
      c.if-buffer-length.false,
      c.codes_length.ensures,
      codes_counted codes good,
    )

pub write_tail-requires : goal.write_tail-requires
write_tail-requires g c =
    let codes = c.as_slice-codes.result.now in
    let good : Codes (reverse codes) = rw c.as_slice-codes.ensures.value c.form.invariant in
    room_after (length (codes_text (reverse codes))) (length (tail_text c.form.inside.tail.number)) (omega arith)
    (omega (
      arith,
      c.new-page.ensures.place,
      ap length c.new-page.ensures.now,
      c.if-buffer-length.false,
      c.codes_length.ensures,
      c.tail_length.ensures,
      codes_counted codes good,
    ))
    c.write_codes.ensures

pub syllables-requires : goal.syllables-requires
syllables-requires g c = rw c.as_slice-codes.ensures.value c.form.invariant

pub returns : goal.returns
returns g c =
    let codes = c.as_slice-codes.result.now in
    let n = c.form.inside.tail.number in
    let view = ap (λ (k : List ℕ). seen k n) c.as_slice-codes.ensures.value ∙ c.form.view_is in
    let good : Codes (reverse codes) = rw c.as_slice-codes.ensures.value c.form.invariant in
    form_put _ codes n view _ c.new-page.ensures.place c.new-page.ensures.now c.write_codes.ensures c.write_tail.ensures (search rules)
    (seen_length _ codes n view (c.codes_length.ensures ∙ codes_counted codes good) c.tail_length.ensures)
    (c.syllables.ensures ∙ h_count_seen _ codes n view good) c.if-buffer-length.false
