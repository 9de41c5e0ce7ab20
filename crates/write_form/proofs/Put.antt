-- The form that codes and a tail spell, put into a buffer or refused for want of room: its length and its counts are those of the
-- text. Assumes nothing.
use Prim.Native.Nat.{ℕ, ◌+◌, ◌≤◌, ◌<◌}
use native.Mathlib.Omega.{arith}
use mathlib.Core.List.{List, ◌++◌, reverse}
use mathlib.Core.Path.{◌≡◌, sym, ap, subst, subst₂, ◌∙◌}
use lib.ListN.{length, length-append}
use Rattle.std.proofs.lemmas.List.{length-reverse}
use Rattle.form.specs.Tail.{tail_text}
use Rattle.form.specs.Count.{t_count, h_count}
use Rattle.answer.specs.declared.Refusal.TheVariants.{NoRoom}
use Rattle.answer.specs.declared.Figures.{Figures}
use Rattle.answer.specs.Refusal.{accepted, refusal}
use Rattle.answer.specs.Written.{PutForm, no_room, room, figures_of}
use Rattle.extend_form.specs.Spelling.{Spelling, codes_text, spelled_text}
use Rattle.extend_form.proofs.Codes.{t_count_kept}
use Rattle.place.specs.Place.{Placed}
use Rattle.place.specs.declared.Page.{Page}
use Rattle.place.specs.Page.{Wrote}
use Rattle.place.proofs.Written.{wrote_more}
use Rattle.answer.proofs.Put.{placed_at_start}

module _ (s : Spelling) (codes : List ℕ) (n : ℕ) (view : record { codes = reverse codes; tail = n } ≡ s) where
  seen_text : codes_text (reverse codes) ++ tail_text n ≡ spelled_text s
  unfolding spelled_text
  seen_text = ap spelled_text view

  -- the length of the text is that of its codes and its tail
  pub seen_length : {a b : ℕ} → a ≡ length (codes_text (reverse codes)) → b ≡ length (tail_text n) → a + b ≡ length (spelled_text s)
  seen_length e d = omega (arith, length-append (codes_text (reverse codes)) (tail_text n), ap length seen_text)

  -- there are as many codes as are kept
  pub seen_count : length s.codes ≡ length codes
  seen_count = ap (λ (t : Spelling). length t.codes) (sym view) ∙ length-reverse codes

  seen_t_count : t_count (spelled_text s) ≡ length codes
  seen_t_count = t_count_kept s ∙ seen_count

  module _ (before : List ℕ) where
    pub form_refused : {l : ℕ} → l ≡ length (spelled_text s) → length before < l → PutForm (spelled_text s) before (refusal (NoRoom l)) before
    form_refused e short = rw e (no_room (rw e at short))

    figures : {l h : ℕ} → l ≡ length (spelled_text s) → h ≡ h_count (spelled_text s) →
        record { length = l; tcount = length codes; hcount = h } ≡ figures_of (spelled_text s)
    unfolding figures_of
    figures e d = λ i. record { length = e i; tcount = sym seen_t_count i; hcount = d i }

    pub form_put : {page page' page'' : Page} {l h : ℕ} {after : List ℕ} → page.place ≡ 0 → page.buffer.now ≡ before →
        Wrote page (codes_text (reverse codes)) page' → Wrote page' (tail_text n) page'' → after ≡ page''.buffer.now →
        l ≡ length (spelled_text s) → h ≡ h_count (spelled_text s) → l ≤ length before →
        PutForm (spelled_text s) before (accepted (record { length = l; tcount = length codes; hcount = h })) after
    form_put {page} {page'' = page''} start same first second last e d fits =
        let both : Placed 0 (spelled_text s) before page''.place page''.buffer.now =
        subst (λ (t : List ℕ). Placed 0 t before page''.place page''.buffer.now) seen_text
        (subst₂ (λ (k : ℕ) (b : List ℕ). Placed k (codes_text (reverse codes) ++ tail_text n) b page''.place page''.buffer.now)
        start same (wrote_more first second).placed) in
        subst₂ (λ (x : Figures) (l : List ℕ). PutForm (spelled_text s) before (accepted x) l)
        (sym (figures e d)) (sym (last ∙ placed_at_start both)) (room (rw e at fits))
