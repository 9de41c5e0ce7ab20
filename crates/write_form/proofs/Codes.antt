-- Codes in the order of the text: how long their text is, and how many are syllables. Assumes nothing.
use Prim.Native.Nat.{ℕ, zero, suc, ◌+◌, ◌-◌, ◌*◌, ◌≤◌, ◌<◌}
use native.Mathlib.Numerals.{add-one}
use native.Mathlib.Omega.{arith}
use borrow.Author.Rules.{rules}
use mathlib.Core.List.{List, [], ◌∷◌, ◌++◌, reverse, append_assoc, append-nil}
use mathlib.Core.Path.{◌≡◌, refl, sym, ap, subst, ◌∙◌}
use lib.ListN.{length, get_or, take, drop, length-append, take-append-drop}
use lib.Seq.{take-suc}
use Rattle.std.specs.Prelude.{◌==◌, not, cond, Bool, true, sum_by, count_by}
use Rattle.std.proofs.lemmas.List.{reverse-append, reverse-reverse, length-reverse}
use Rattle.std.proofs.lemmas.List.Sums.{sum_by-append}
use Rattle.matrix.specs.Letter.{T}
use Rattle.form.specs.Tail.{head_text}
use Rattle.form.specs.Count.{h_count}
use Rattle.form.proofs.Count.{length_head}
use Rattle.extend_form.specs.Spelling.{Spelling, Codes, HT_above, SHT_above, codes_text, spelled_text}
use Rattle.extend_form.proofs.Spelling.{syllable_count, h_count_spelled}
use Rattle.extend_form.proofs.Codes.{last_code}

-- the text of codes above others
codes_text_append : (above below : List ℕ) → codes_text (above ++ below) ≡ codes_text below ++ codes_text above
unfolding codes_text
codes_text_append [] below = sym (append-nil (codes_text below))
codes_text_append (code ∷ above) below =
    ap (λ (t : List ℕ). t ++ (head_text code ++ T ∷ [])) (codes_text_append above below)
    ∙ append_assoc (codes_text below) (codes_text above) (head_text code ++ T ∷ [])

-- the text of one code more
pub text_more : (codes : List ℕ) (i : ℕ) → i < length codes →
    codes_text (reverse (take (i + 1) codes)) ≡ codes_text (reverse (take i codes)) ++ (head_text (get_or codes i 0) ++ T ∷ [])
unfolding codes_text
text_more codes i i< =
    ap (λ (cs : List ℕ). codes_text (reverse cs)) (ap (λ (k : ℕ). take k codes) (add-one i) ∙ take-suc codes i 0 i<)
    ∙ ap codes_text (reverse-append (take i codes) (get_or codes i 0 ∷ []))

-- the first codes have a text that is no longer
fewer_shorter : (codes : List ℕ) (i : ℕ) → length (codes_text (reverse (take i codes))) ≤ length (codes_text (reverse codes))
fewer_shorter codes i =
    let whole : codes_text (reverse codes) ≡ codes_text (reverse (take i codes)) ++ codes_text (reverse (drop i codes)) =
    ap (λ (cs : List ℕ). codes_text (reverse cs)) (sym (take-append-drop i codes))
    ∙ ap codes_text (reverse-append (take i codes) (drop i codes))
    ∙ codes_text_append (reverse (drop i codes)) (reverse (take i codes)) in
    omega (arith, ap length whole, length-append (codes_text (reverse (take i codes))) (codes_text (reverse (drop i codes))))

-- so where a text has room, so has one code more of it
pub next_fits : (codes : List ℕ) (i : ℕ) → i < length codes →
    length (codes_text (reverse (take i codes))) + (length (head_text (get_or codes i 0)) + 1) ≤ length (codes_text (reverse codes))
next_fits codes i i< =
    omega (
      arith,
      fewer_shorter codes (i + 1),
      ap length (text_more codes i i<),
      length-append (codes_text (reverse (take i codes))) (head_text (get_or codes i 0) ++ T ∷ []),
      length-append (head_text (get_or codes i 0)) (T ∷ []),
    )

-- a head is as long as its number
pub head_length : (h : ℕ) → h < 3 → length (head_text h) ≡ h
unfolding head_text
head_length zero h< = refl
head_length (suc zero) h< = refl
head_length (suc (suc zero)) h< = refl
head_length (suc (suc (suc h))) h< = absurd (omega arith)

-- a code's text is as long as its number, and T
counted : (cs : List ℕ) → Codes cs → sum_by (λ code. code + 1) (reverse cs) ≡ length (codes_text cs)
unfolding codes_text
counted [] good = refl
counted (code ∷ below) good =
    let (code<, under) = last_code good in
    ap (sum_by (λ code. code + 1)) (reverse-append (code ∷ []) below)
    ∙ sum_by-append (λ code. code + 1) (reverse below) (code ∷ [])
    ∙ omega (
      arith,
      counted below under,
      length-append (codes_text below) (head_text code ++ T ∷ []),
      length-append (head_text code) (T ∷ []),
      head_length code code<,
    )

pub codes_counted : (codes : List ℕ) → Codes (reverse codes) → sum_by (λ code. code + 1) codes ≡ length (codes_text (reverse codes))
codes_counted codes good =
    ap (sum_by (λ code. code + 1)) (sym (reverse-reverse codes)) ∙ counted (reverse codes) good

-- a code's text has at most three bytes
short : (cs : List ℕ) → length (codes_text cs) ≤ 3 * length cs
unfolding codes_text
short [] = omega arith
short (code ∷ below) =
    omega (
      arith,
      length-append (codes_text below) (head_text code ++ T ∷ []),
      length-append (head_text code) (T ∷ []),
      length_head code,
      short below,
    )

pub codes_short : (codes : List ℕ) → length (codes_text (reverse codes)) ≤ 3 * length codes
codes_short codes = omega (arith, short (reverse codes), length-reverse codes)

-- every code is a syllable, but a T at the bottom
abbrev pub is_syllable : ℕ → Bool
is_syllable code = not (code == 0)

more_is_syllable : (code : ℕ) → is_syllable (suc code) ≡ true
more_is_syllable code = search rules

syllables_counted : (cs : List ℕ) → count_by is_syllable (reverse cs) ≡ syllable_count cs
unfolding syllable_count
syllables_counted [] = refl
syllables_counted (zero ∷ below) =
    ap (count_by is_syllable) (reverse-append (0 ∷ []) below)
    ∙ sum_by-append (λ code. cond (is_syllable code) 1 0) (reverse below) (0 ∷ [])
    ∙ omega (arith, syllables_counted below)
syllables_counted (suc code ∷ below) =
    ap (count_by is_syllable) (reverse-append (suc code ∷ []) below)
    ∙ sum_by-append (λ code. cond (is_syllable code) 1 0) (reverse below) (suc code ∷ [])
    ∙ omega (arith, syllables_counted below, ap {B = ℕ} (λ (b : Bool). cond b 1 0) (more_is_syllable code))

-- every code but the one at the bottom is a syllable
upper_counted : {top next : ℕ} {below : List ℕ} → Codes (top ∷ next ∷ below) → syllable_count (top ∷ next ∷ below) ≡ suc (syllable_count (next ∷ below))
unfolding syllable_count
upper_counted (HT_above good) = refl
upper_counted (SHT_above good) = refl

over_bottom : (upper : List ℕ) (bottom : ℕ) → Codes (upper ++ bottom ∷ []) → syllable_count (upper ++ bottom ∷ []) ≡ length upper + syllable_count (bottom ∷ [])
over_bottom [] bottom good = omega arith
over_bottom (top ∷ []) bottom good = upper_counted good ∙ omega arith
over_bottom (top ∷ next ∷ upper) bottom good =
    let under : syllable_count (next ∷ (upper ++ bottom ∷ [])) ≡ length (next ∷ upper) + syllable_count (bottom ∷ []) =
    over_bottom (next ∷ upper) bottom (last_code good).1 in
    upper_counted good ∙ omega (arith, under)

counted_from_bottom : (bottom : ℕ) (upper : List ℕ) → Codes (reverse (bottom ∷ upper)) →
    count_by is_syllable (bottom ∷ upper) ≡ length upper + syllable_count (bottom ∷ [])
counted_from_bottom bottom upper good =
    let turned : reverse (bottom ∷ upper) ≡ reverse upper ++ bottom ∷ [] = reverse-append (bottom ∷ []) upper in
    ap (count_by is_syllable) (sym (reverse-reverse (bottom ∷ upper)))
    ∙ syllables_counted (reverse (bottom ∷ upper))
    ∙ ap syllable_count turned
    ∙ over_bottom (reverse upper) bottom (subst Codes turned good)
    ∙ ap (λ (n : ℕ). n + syllable_count (bottom ∷ [])) (length-reverse upper)

bottom_T : syllable_count (0 ∷ []) ≡ 0
unfolding syllable_count
bottom_T = refl

bottom_syllable : (code : ℕ) → syllable_count (suc code ∷ []) ≡ 1
unfolding syllable_count
bottom_syllable code = refl

pub counted_over_T : (codes : List ℕ) → get_or codes 0 0 ≡ 0 → Codes (reverse codes) → length codes - 1 ≡ count_by is_syllable codes
counted_over_T [] bottom good = omega arith
counted_over_T (zero ∷ upper) bottom good = omega (arith, counted_from_bottom 0 upper good, bottom_T)
counted_over_T (suc code ∷ upper) bottom good = absurd (omega (arith, bottom))

pub counted_all : (codes : List ℕ) → (get_or codes 0 0 ≡ 0 → ⊥) → Codes (reverse codes) → length codes ≡ count_by is_syllable codes
counted_all [] syllable good = absurd (syllable refl)
counted_all (zero ∷ upper) syllable good = absurd (syllable refl)
counted_all (suc code ∷ upper) syllable good = omega (arith, counted_from_bottom (suc code) upper good, bottom_syllable code)

-- the H-count of what codes and a tail spell
pub h_count_seen : (s : Spelling) (codes : List ℕ) (n : ℕ) → record { codes = reverse codes; tail = n } ≡ s → Codes (reverse codes) →
    count_by is_syllable codes ≡ h_count (spelled_text s)
unfolding spelled_text
h_count_seen s codes n view good =
    ap (count_by is_syllable) (sym (reverse-reverse codes))
    ∙ syllables_counted (reverse codes)
    ∙ sym (h_count_spelled n good)
    ∙ ap (λ (t : Spelling). h_count (spelled_text t)) view
