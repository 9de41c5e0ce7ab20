-- The longest form that a text begins with, part by part: a text that no syllable begins holds a tail alone; after a
-- syllable, or after the T in front, it is the part and the longest of the rest. Assumes nothing.
use Prim.Native.Nat.{ℕ, ◌+◌, ◌-◌, ◌≤◌, ◌<◌}
use native.Mathlib.Decide.{dec_le}
use native.Mathlib.Omega.{arith}
use mathlib.Core.Bool.{Bool, true, false, true≢false}
use mathlib.Core.List.{List, [], ◌∷◌, ◌++◌, append_assoc}
use mathlib.Core.Path.{◌≡◌, refl, sym, ap, ◌∙◌}
use lib.ListN as L
use lib.Seq.{take-add}
use Rattle.matrix.specs.Letter.{T}
use Rattle.form.specs.Tail.{tails, tail_text}
use Rattle.form.specs.Form.{Syllable, Parts, syllable_text, syllables_text, front_text, form_text}
use Rattle.form.specs.Count.{t_count, h_count, begins_with_T}
use Rattle.form.proofs.Count.{t_count_append, t_count_syllable, h_count_syllable, t_count_within, h_count_within}
use Rattle.form.proofs.Grammar.{syllable_unique, syllable_is_no_tail, rest_begins_without_T}
use Rattle.form.proofs.Prefix.{Rest}
use Rattle.answer.specs.Written.{figures_of}
use Rattle.read_form.proofs.Taking.{front_within, front_of_prefix, to_the_end}
use Rattle.read_form.specs.declared.Reading.{Reading}
use Rattle.read_form.specs.Promise.{reading_of}
use Rattle.read_form.specs.Part.{LeadingSyllable, Any, NoFront, OnlyTail, Longest}

-- a form by its parts

abbrev parts_of : Bool → List Syllable → ℕ → Parts
parts_of front syllables tail = record { front = front; syllables = syllables; tail = tail }

no_front_form : (q : Parts) → NoFront q → form_text q ≡ syllables_text q.syllables ++ tail_text q.tail
unfolding form_text front_text
no_front_form q none = rw none refl

-- the reading of the part of a text from k on, and what is added to it, is within the text
pub rest_fits :
    (Allowed : Parts → Type 0) (text : List ℕ) (k : ℕ) (r : Reading) → 0 < k → k ≤ L.length text →
    Longest Allowed (L.take (L.length text - k) (L.drop k text)) r →
    (k + r.figures.length ≤ L.length text) × (1 + r.figures.tcount ≤ L.length text) × (1 + r.figures.hcount ≤ L.length text)
unfolding reading_of figures_of
rest_fits Allowed text k r some inside found =
    let part = ap L.length (to_the_end k text) ∙ L.length-drop k text in
    let long = ap (λ (x : Reading). x.figures.length) found.read in
    let T_count = ap (λ (x : Reading). x.figures.tcount) found.read in
    let H_count = ap (λ (x : Reading). x.figures.hcount) found.read in
    let within = found.within in
    let no_more_T = t_count_within (form_text found.parts) in
    let no_more_syllables = h_count_within (form_text found.parts) in
    (omega arith, omega arith, omega arith)

-- a lead that the text begins with, and the longest rest after it: a longer form would leave a longer rest
module _
    (Allowed : Parts → Type 0) (text lead : List ℕ) (r answer : Reading) (begins : L.take (L.length lead) text ≡ lead)
    (rest : Longest NoFront (L.drop (L.length lead) text) r) (joined : Parts)
    (allowed : Allowed joined) (same_tail : joined.tail ≡ rest.parts.tail)
    (joins : form_text joined ≡ lead ++ form_text rest.parts) (long : answer.figures.length ≡ L.length lead + r.figures.length)
    (read : answer ≡ reading_of (form_text joined) joined.tail)
    (left : (q : Parts) (u : List ℕ) → Allowed q → q.tail < tails → lead ++ u ≡ form_text q → Rest u) where
  split_text : (j : ℕ) → L.take (L.length lead + j) text ≡ lead ++ L.take j (L.drop (L.length lead) text)
  split_text j = take-add (L.length lead) j text ∙ ap (λ (s : List ℕ). s ++ L.take j (L.drop (L.length lead) text)) begins

  no_longer :
      (q : Parts) (n : ℕ) → Allowed q → q.tail < tails → n ≤ L.length text → L.take n text ≡ form_text q →
      n ≤ answer.figures.length
  unfolding form_text front_text
  no_longer q n ok below inside same = split (dec_le (L.length lead) n)
    where
      split : Dec (L.length lead ≤ n) → n ≤ answer.figures.length
      split (no short) = omega arith
      split (yes past) =
          let j : ℕ = n - L.length lead in
          let at : L.length lead + j ≡ n = omega arith in
          let parted = sym (split_text j) ∙ ap (λ (k : ℕ). L.take k text) at ∙ same in
          let form = left q (L.take j (L.drop (L.length lead) text)) ok below parted in
          let parts = parts_of false form.syllables form.tail in
          let j_inside : j ≤ L.length (L.drop (L.length lead) text) = omega (arith, L.length-drop (L.length lead) text) in
          omega (arith, rest.longest parts j (refl {a = false}) form.in_tails j_inside form.spelled)

  longest_after : Longest Allowed text answer
  longest_after =
      record {
        parts = joined;
        allowed = allowed;
        in_tails = rw same_tail rest.in_tails;
        within = omega (arith, rest.within, front_within text lead begins, L.length-drop (L.length lead) text);
        spelled =
            ap (λ (k : ℕ). L.take k text) long
            ∙ split_text r.figures.length
            ∙ ap (λ (s : List ℕ). lead ++ s) rest.spelled
            ∙ sym joins;
        read = read;
        longest = no_longer;
      }

-- a text that no syllable begins

tail_alone :
    (text : List ℕ) (r : Reading) → ((s : Syllable) → L.take (L.length (syllable_text s)) text ≡ syllable_text s → ⊥) →
    Longest OnlyTail text r → (ss : List Syllable) (m n : ℕ) → m < tails → n ≤ L.length text →
    L.take n text ≡ syllables_text ss ++ tail_text m → n ≤ r.figures.length
unfolding form_text front_text syllables_text
tail_alone text r none tail [] m n below inside same = tail.longest (parts_of false [] m) n (refl, refl) below inside same
tail_alone text r none tail (s ∷ ss) m n below inside same =
    absurd (none s (front_of_prefix text (syllable_text s) _ n (simp append_assoc at same)))

pub longest_without_syllable :
    (text : List ℕ) (k : ℕ) (r : Reading) → k ≡ 0 → LeadingSyllable text k → Longest OnlyTail text r →
    Longest NoFront text r
longest_without_syllable text k r empty syllable tail =
    record {
      parts = tail.parts;
      allowed = tail.allowed.0;
      in_tails = tail.in_tails;
      within = tail.within;
      spelled = tail.spelled;
      read = tail.read;
      longest = λ q n none below inside same.
          tail_alone text r (syllable.none empty) tail q.syllables q.tail n below inside (same ∙ no_front_form q none);
    }

-- a lead with one T, and the reading of the rest
read_after :
    (lead u : List ℕ) (r : Reading) (tail h : ℕ) → r ≡ reading_of u tail → t_count lead ≡ 1 → h ≡ h_count (lead ++ u) →
    record { figures = record { length = L.length lead + r.figures.length; tcount = 1 + r.figures.tcount; hcount = h }; tail = r.tail }
    ≡ reading_of (lead ++ u) tail
unfolding reading_of figures_of
read_after lead u r tail h read one syllables =
    λ i. record {
      figures = record { length = lengths i; tcount = counts i; hcount = syllables i };
      tail = ap (λ (x : Reading). x.tail) read i;
    }
  where
    lengths : L.length lead + r.figures.length ≡ L.length (lead ++ u)
    lengths = omega (arith, ap (λ (x : Reading). x.figures.length) read, L.length-append lead u)

    counts : 1 + r.figures.tcount ≡ t_count (lead ++ u)
    counts = omega (arith, ap (λ (x : Reading). x.figures.tcount) read, t_count_append lead u, one)

-- after a syllable

rest_left_by_syllable :
    (s : Syllable) (ss : List Syllable) (m : ℕ) (u : List ℕ) → m < tails →
    syllable_text s ++ u ≡ syllables_text ss ++ tail_text m → Rest u
unfolding form_text front_text syllables_text
rest_left_by_syllable s [] m u below same = absurd (syllable_is_no_tail s u m same)
rest_left_by_syllable s (s' ∷ ss) m u below same =
    record {
      syllables = ss;
      tail = m;
      in_tails = below;
      spelled = (syllable_unique s s' u _ (simp append_assoc at same)).1;
    }

syllable_joins :
    (s : Syllable) (p : Parts) → NoFront p →
    form_text (parts_of false (s ∷ p.syllables) p.tail) ≡ syllable_text s ++ form_text p
unfolding form_text front_text syllables_text
syllable_joins s p none =
    append_assoc (syllable_text s) (syllables_text p.syllables) (tail_text p.tail)
    ∙ ap (λ (t : List ℕ). syllable_text s ++ t) (sym (no_front_form p none))

syllable_first :
    (text : List ℕ) (s : Syllable) (r : Reading) → L.take (L.length (syllable_text s)) text ≡ syllable_text s →
    Longest NoFront (L.drop (L.length (syllable_text s)) text) r →
    Longest NoFront text
    (record { figures = record { length = L.length (syllable_text s) + r.figures.length; tcount = 1 + r.figures.tcount; hcount = 1 + r.figures.hcount }; tail = r.tail })
unfolding reading_of figures_of
syllable_first text s r begins rest =
    longest_after NoFront text (syllable_text s) r _ begins rest
    (parts_of false (s ∷ rest.parts.syllables) rest.parts.tail) refl refl joins refl
    (read_after (syllable_text s) u r rest.parts.tail (1 + r.figures.hcount) rest.read (t_count_syllable s) counts
    ∙ ap (λ (t : List ℕ). reading_of t rest.parts.tail) (sym joins))
    (λ q v none below same. rest_left_by_syllable s q.syllables q.tail v below (same ∙ no_front_form q none))
  where
    u : List ℕ
    u = form_text rest.parts

    joins : form_text (parts_of false (s ∷ rest.parts.syllables) rest.parts.tail) ≡ syllable_text s ++ u
    joins = syllable_joins s rest.parts rest.allowed

    counts : 1 + r.figures.hcount ≡ h_count (syllable_text s ++ u)
    counts = omega (arith, ap (λ (x : Reading). x.figures.hcount) rest.read, h_count_syllable s u)

pub longest_after_syllable :
    (text : List ℕ) (k : ℕ) (r : Reading) → 0 < k → LeadingSyllable text k → Longest NoFront (L.drop k text) r →
    Longest NoFront text (record { figures = record { length = k + r.figures.length; tcount = 1 + r.figures.tcount; hcount = 1 + r.figures.hcount }; tail = r.tail })
longest_after_syllable text k r some syllable rest =
    let (s, long, begins) = syllable.whole some in
    rw (← long) (syllable_first text s r (rw (← long) at begins) (rw (← long) at rest))

-- after the T in front, or without one

rest_left_by_front :
    (b : Bool) (ss : List Syllable) (m : ℕ) (u : List ℕ) → m < tails →
    T ∷ u ≡ front_text b ++ (syllables_text ss ++ tail_text m) → Rest u
unfolding form_text front_text begins_with_T
rest_left_by_front true ss m u below same =
    record { syllables = ss; tail = m; in_tails = below; spelled = ap (L.drop 1) same }
rest_left_by_front false ss m u below same = absurd (true≢false (ap begins_with_T same ∙ rest_begins_without_T ss m))

front_joins :
    (p : Parts) → NoFront p → form_text (parts_of true p.syllables p.tail) ≡ T ∷ form_text p
unfolding form_text front_text
front_joins p none = ap (λ (t : List ℕ). T ∷ t) (sym (no_front_form p none))

pub longest_after_front :
    (text : List ℕ) (r : Reading) → L.take 1 text ≡ T ∷ [] → Longest NoFront (L.drop 1 text) r →
    Longest Any text (record { figures = record { length = 1 + r.figures.length; tcount = 1 + r.figures.tcount; hcount = r.figures.hcount }; tail = r.tail })
unfolding reading_of figures_of form_text t_count h_count
longest_after_front text r begins rest =
    longest_after Any text (T ∷ []) r _ begins rest (parts_of true rest.parts.syllables rest.parts.tail) tt refl joins refl
    (read_after (T ∷ []) (form_text rest.parts) r rest.parts.tail r.figures.hcount rest.read refl
    (ap (λ (x : Reading). x.figures.hcount) rest.read) ∙ ap (λ (t : List ℕ). reading_of t rest.parts.tail) (sym joins))
    (λ q v any below same. rest_left_by_front q.front q.syllables q.tail v below same)
  where
    joins : form_text (parts_of true rest.parts.syllables rest.parts.tail) ≡ T ∷ form_text rest.parts
    joins = front_joins rest.parts rest.allowed

no_T_front :
    (text : List ℕ) (r : Reading) → (L.take 1 text ≡ T ∷ [] → ⊥) → Longest NoFront text r →
    (b : Bool) (ss : List Syllable) (m n : ℕ) → m < tails → n ≤ L.length text →
    L.take n text ≡ form_text (parts_of b ss m) → n ≤ r.figures.length
unfolding form_text front_text
no_T_front text r none rest true ss m n below inside same = absurd (none (front_of_prefix text (T ∷ []) _ n same))
no_T_front text r none rest false ss m n below inside same = rest.longest (parts_of false ss m) n refl below inside same

pub longest_without_front :
    (text : List ℕ) (r : Reading) → (L.take 1 text ≡ T ∷ [] → ⊥) → Longest NoFront text r → Longest Any text r
longest_without_front text r none rest =
    record {
      parts = rest.parts;
      allowed = tt;
      in_tails = rest.in_tails;
      within = rest.within;
      spelled = rest.spelled;
      read = rest.read;
      longest = λ q n any below inside same. no_T_front text r none rest q.front q.syllables q.tail n below inside same;
    }
