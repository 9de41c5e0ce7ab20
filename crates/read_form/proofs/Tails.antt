-- A tail's head and its three runs, each as long as can be, are the longest tail that a text begins with: each prefix of
-- a tail is a tail, so a longer one would begin with this one and its next byte, which the runs rule out.
-- Assumes nothing.
use Prim.Native.Nat.{ℕ, suc, ◌+◌, ◌≤◌, ◌<◌}
use native.Mathlib.Nat.{not-le_of_lt}
use native.Mathlib.Decide.{dec_le}
use native.Mathlib.Omega.{arith}
use mathlib.Core.Bool.{false}
use mathlib.Core.List.{List, [], ◌∷◌, ◌++◌, append_assoc}
use mathlib.Core.Path.{◌≡◌, refl, sym, ap, ◌∙◌}
use lib.ListN.{length, take, drop, get_or, length-drop}
use lib.Seq.{take-add, take-suc, take-take, get_or-drop, length-take-le}
use Rattle.matrix.specs.Letter.{H, S, W, X}
use Rattle.form.specs.Tail.{tails, tail_h, tail_b, tail_c, tail_a, head_text, tail_text}
use Rattle.form.specs.Form.{Parts, syllables_text, front_text, form_text}
use Rattle.form.proofs.Count.{t_count_tail, h_count_tail}
use Rattle.form.proofs.Grammar.{tail_number, tail_fields, tail_spelled}
use Rattle.form.proofs.Prefix.{tail_prefix}
use Rattle.form.proofs.Follow.{Follows, W_follows, S_follows, X_follows, H_follows, H_after_S, follows}
use Rattle.answer.specs.Written.{figures_of}
use Rattle.read_form.specs.Promise.{reading_of}
use Rattle.read_form.specs.Part.{Run, Head, OnlyTail, Longest}

-- a tail as a form: no front, no syllable
abbrev tail_parts : ℕ → Parts
tail_parts n = record { front = false; syllables = []; tail = n }

tail_form : (n : ℕ) → form_text (tail_parts n) ≡ tail_text n
unfolding form_text front_text syllables_text
tail_form n = refl

only_tail_form : (q : Parts) → OnlyTail q → form_text q ≡ tail_text q.tail
unfolding form_text front_text syllables_text
only_tail_form q (front, syllables) = rw (front, syllables) refl

module _
    (text : List ℕ) (h b c a : ℕ) (head : Head text h) (run_X : Run (drop h text) X 1 b)
    (run_S : Run (drop (h + b) text) S 3 c) (run_W : Run (drop (h + b + c) text) W 7 a) where
  abbrev found : ℕ
  found = h + b + c + a

  abbrev number : ℕ
  number = tail_number h b c a

  small : (b < 2) × (c < 4) × (a < 8)
  small = omega arith

  within : found ≤ length text
  within =
      omega (arith, length-drop h text, length-drop (h + b) text, length-drop (h + b + c) text)

  in_tails : number < tails
  in_tails = omega arith

  spelled : take found text ≡ tail_text number
  spelled =
      simp (
        take-add,
        head.spelled,
        run_X.spelled,
        run_S.spelled,
        run_W.spelled,
        append_assoc,
        tail_spelled h b c a small.0 small.1 small.2,
      )

  next : found < length text → take (suc found) text ≡ tail_text number ++ (get_or text found 0 ∷ [])
  next inside = rw (take-suc text found 0, spelled)

  fields :
      (tail_h number ≡ h) × (tail_b number ≡ b) × (tail_c number ≡ c) × (tail_a number ≡ a)
  fields = tail_fields h b c a small.0 small.1 small.2

  byte_at : (n i : ℕ) → n + i ≡ found → get_or (drop n text) i 0 ≡ get_or text found 0
  byte_at n i at = get_or-drop n text i 0 ∙ ap (λ (k : ℕ). get_or text k 0) at

  -- an H after the tail m
  with_H :
      (m k : ℕ) → found < length text → get_or text found 0 ≡ H → number ≡ m → suc found ≡ k →
      take k text ≡ tail_text m ++ (H ∷ [])
  with_H m k inside byte e at = rw (← at, ← e, ← byte) (next inside)

  -- no byte may follow the tail that was found
  stopped : (x : ℕ) → found < length text → get_or text found 0 ≡ x → Follows number x → ⊥
  unfolding tail_text head_text
  stopped x inside byte (W_follows w) =
      run_W.stops (omega (arith, fields.3)) (omega (arith, length-drop (h + b + c) text)) (byte_at (h + b + c) a refl ∙ byte)
  stopped x inside byte (S_follows s w) =
      let no_W : a ≡ 0 = sym fields.3 ∙ w in
      run_S.stops (omega (arith, fields.2)) (omega (arith, length-drop (h + b) text)) (byte_at (h + b) c (omega arith) ∙ byte)
  stopped x inside byte (X_follows none s w) =
      let no_W : a ≡ 0 = sym fields.3 ∙ w in
      let no_S : c ≡ 0 = sym fields.2 ∙ s in
      run_X.stops (omega (arith, fields.1)) (omega (arith, length-drop h text)) (byte_at h b (omega arith) ∙ byte)
  stopped x inside byte (H_follows e) =
      absurd (not-le_of_lt (omega arith) (head.longest 1 (omega arith) (with_H 0 1 inside byte e (omega arith))))
  stopped x inside byte (H_after_S e) =
      absurd (not-le_of_lt (omega arith) (head.longest 2 (omega arith) (with_H 8 2 inside byte e (omega arith))))

  longest : (m n : ℕ) → m < tails → n ≤ length text → take n text ≡ tail_text m → n ≤ found
  longest m n below inside same = split (dec_le n found)
    where
      split : Dec (n ≤ found) → n ≤ found
      split (yes it_is) = it_is
      split (no longer) =
          let more : found < n = omega arith in
          let prefix = tail_prefix (record { number = m; in_tails = below; spelled = same }) (suc found) in
          let shorter = sym (take-take (suc found) n text more) ∙ prefix.spelled in
          let byte = get_or text found 0 in
          let one_more = sym (next (omega arith)) ∙ shorter in
          absurd
          (stopped byte (omega arith) refl (follows number byte prefix.number in_tails prefix.in_tails one_more))

  reads : record { figures = record { length = found; tcount = 0; hcount = 0 }; tail = number } ≡ reading_of (form_text (tail_parts number)) number
  unfolding reading_of figures_of
  reads =
      simp tail_form
      (λ i. record { figures = record { length = lengths i; tcount = sym (t_count_tail number) i; hcount = sym (h_count_tail number) i }; tail = number })
    where
      lengths : found ≡ length (tail_text number)
      lengths = sym (length-take-le found text within) ∙ ap length spelled

  pub longest_tail : Longest OnlyTail text (record { figures = record { length = found; tcount = 0; hcount = 0 }; tail = number })
  longest_tail =
      record {
        parts = tail_parts number;
        allowed = (refl, refl);
        in_tails = in_tails;
        within = within;
        spelled = spelled ∙ sym (tail_form number);
        read = reads;
        longest = λ q n only below inside same. longest q.tail n below inside (same ∙ only_tail_form q only);
      }
