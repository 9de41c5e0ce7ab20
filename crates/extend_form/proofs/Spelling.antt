-- What codes and a tail spell is a form, with a T for each code and a syllable for each code but the front's T.
-- Assumes nothing.
use Prim.Native.Nat.{ℕ, zero, suc, ◌+◌, ◌*◌, ◌<◌}
use native.Mathlib.Omega.{arith}
use mathlib.Core.Bool.{Bool, true, false}
use mathlib.Core.List.{List, [], ◌∷◌, ◌++◌, append_assoc, append-nil}
use mathlib.Core.Path.{◌≡◌, refl, sym, ap, ◌∙◌}
use lib.ListN.{length, length-append}
use Rattle.matrix.specs.Letter.{T}
use Rattle.form.specs.Tail.{tails, tail_h, tail_b, tail_c, tail_a, head_text, tail_text}
use Rattle.form.specs.Form.{Syllable, HT, SHT, Parts, Form, syllable_text, syllables_text, front_text, form_text}
use Rattle.form.specs.Count.{t_count, h_count}
use Rattle.form.proofs.Count.{t_count_append, t_count_head, t_count_tail, syllables_are_counted}
use Rattle.extend_form.specs.Spelling.{Codes, no_codes, front, HT_above, SHT_above, codes_text}

-- the number of the syllables among codes
unfoldable pub syllable_count : List ℕ → ℕ
syllable_count [] = 0
syllable_count (zero ∷ below) = syllable_count below
syllable_count (suc code ∷ below) = suc (syllable_count below)

syllables_append : (ss : List Syllable) (s : Syllable) → syllables_text (ss ++ s ∷ []) ≡ syllables_text ss ++ syllable_text s
unfolding syllables_text
syllables_append [] s = append-nil (syllable_text s)
syllables_append (r ∷ ss) s =
    ap (λ (t : List ℕ). syllable_text r ++ t) (syllables_append ss s)
    ∙ sym (append_assoc (syllable_text r) (syllables_text ss) (syllable_text s))

-- front and syllables of codes
record Fronted (codes : List ℕ) : Type 0 where
  front_T : Bool
  syllables : List Syllable
  text : codes_text codes ≡ front_text front_T ++ syllables_text syllables
  counted : length syllables ≡ syllable_count codes

fronted_above : {below : List ℕ} (s : Syllable) (code : ℕ) → head_text (suc code) ++ T ∷ [] ≡ syllable_text s → Fronted below → Fronted (suc code ∷ below)
unfolding codes_text syllable_count
fronted_above {below} s code spelled f =
    record {
      front_T = f.front_T;
      syllables = f.syllables ++ s ∷ [];
      text =
          ap (λ (t : List ℕ). t ++ (head_text (suc code) ++ T ∷ [])) f.text
          ∙ ap (λ (t : List ℕ). front_text f.front_T ++ syllables_text f.syllables ++ t) spelled
          ∙ append_assoc (front_text f.front_T) (syllables_text f.syllables) (syllable_text s)
          ∙ ap (λ (t : List ℕ). front_text f.front_T ++ t) (sym (syllables_append f.syllables s));
      counted = length-append f.syllables (s ∷ []) ∙ omega (arith, f.counted);
    }

fronted : {codes : List ℕ} → Codes codes → Fronted codes
unfolding codes_text syllable_count head_text front_text syllables_text syllable_text
fronted no_codes = record { front_T = false; syllables = []; text = refl; counted = refl }
fronted front = record { front_T = true; syllables = []; text = refl; counted = refl }
fronted (HT_above below) = fronted_above HT 0 refl (fronted below)
fronted (SHT_above below) = fronted_above SHT 1 refl (fronted below)

-- the parts that codes and a tail spell
parts_of : {codes : List ℕ} → Codes codes → ℕ → Parts
parts_of codes n = record { front = (fronted codes).front_T; syllables = (fronted codes).syllables; tail = n }

parts_spelled : {codes : List ℕ} (good : Codes codes) (n : ℕ) → codes_text codes ++ tail_text n ≡ form_text (parts_of good n)
unfolding form_text parts_of
parts_spelled good n =
    ap (λ (t : List ℕ). t ++ tail_text n) (fronted good).text
    ∙ append_assoc (front_text (fronted good).front_T) (syllables_text (fronted good).syllables) (tail_text n)

-- codes and a tail spell a form
pub codes_form : {codes : List ℕ} {n : ℕ} → Codes codes → n < tails → Form (codes_text codes ++ tail_text n)
unfolding parts_of
codes_form {codes} {n} good n< = record { parts = parts_of good n; in_tails = n<; spelled = parts_spelled good n }

-- a T for each code, and none in the tail
pub t_count_codes : (codes : List ℕ) → t_count (codes_text codes) ≡ length codes
unfolding codes_text t_count
t_count_codes [] = refl
t_count_codes (code ∷ below) =
    t_count_append (codes_text below) (head_text code ++ T ∷ [])
    ∙ omega (arith, t_count_append (head_text code) (T ∷ []), t_count_head code, t_count_codes below)

pub t_count_spelled : (codes : List ℕ) (n : ℕ) → t_count (codes_text codes ++ tail_text n) ≡ length codes
t_count_spelled codes n =
    t_count_append (codes_text codes) (tail_text n) ∙ omega (arith, t_count_codes codes, t_count_tail n)

-- a syllable for each code but the front's T
pub h_count_spelled : {codes : List ℕ} (n : ℕ) → Codes codes → h_count (codes_text codes ++ tail_text n) ≡ syllable_count codes
unfolding parts_of
h_count_spelled n good = ap h_count (parts_spelled good n) ∙ syllables_are_counted (parts_of good n) ∙ (fronted good).counted

-- a tail of X, S and W alone, after a head
pub headed_tail : (h n : ℕ) → tail_h n ≡ 0 → tail_text (64 * h + n) ≡ head_text h ++ tail_text n
unfolding tail_text head_text
headed_tail h n headless =
    let at_h : tail_h (64 * h + n) ≡ h = omega arith in
    let at_b : tail_b (64 * h + n) ≡ tail_b n = omega arith in
    let at_c : tail_c (64 * h + n) ≡ tail_c n = omega arith in
    let at_a : tail_a (64 * h + n) ≡ tail_a n = omega arith in
    simp (at_h, at_b, at_c, at_a, headless)
