-- The grammar is unambiguous: a text is spelled by one list of parts at most, so a form's front, syllables and tail number
-- are read off its text. A tail's text tells its number, by one test over the 192. Assumes nothing.
use Prim.Native.Nat.{ℕ, suc, ◌+◌, ◌*◌, ◌-◌, ◌/◌, ◌≤◌, ◌<◌}
use native.Mathlib.Nat.{not-suc-le-zero}
use native.Mathlib.Omega.{arith}
use mathlib.Core.Bool.{Bool, true, false, cond, true≢false}
use mathlib.Core.List.{List, [], ◌∷◌, ◌++◌, append_assoc}
use mathlib.Core.Path.{◌≡◌, refl, sym, ap, ap₂, ◌∙◌}
use lib.Dec.{eqb, eqb→eq, T as Holds}
use lib.ListN.{replicate, drop, get_or}
use Rattle.matrix.specs.Letter.{H, S, W, X}
use Rattle.form.specs.Tail.{tails, tail_h, tail_b, tail_c, tail_a, head_text, tail_text}
use Rattle.form.specs.Form.{Syllable, HT, SHT, Parts, Form, syllable_text, syllables_text, front_text, form_text}
use Rattle.form.specs.Count.{t_count, begins_with_T}
use Rattle.form.proofs.Every.{every, every_at}
use Rattle.form.proofs.Count.{t_count_append, t_count_tail, t_count_syllable, front_count, h_count_within}

-- "numbered 64·h + 32·b + 8·c + a"
abbrev pub tail_number : ℕ → ℕ → ℕ → ℕ → ℕ
tail_number h b c a = 64 * h + 32 * b + 8 * c + a

-- a number's four fields
pub tail_fields :
    (h b c a : ℕ) → b < 2 → c < 4 → a < 8 →
    (tail_h (tail_number h b c a) ≡ h) × (tail_b (tail_number h b c a) ≡ b) ×
    (tail_c (tail_number h b c a) ≡ c) × (tail_a (tail_number h b c a) ≡ a)
tail_fields h b c a b2 c4 a8 = (omega arith, omega arith, omega arith, omega arith)

-- "with h = 0, 1, 2 for nothing, H, SH, and b, c, a the counts of X, S, W"
pub tail_spelled :
    (h b c a : ℕ) → b < 2 → c < 4 → a < 8 →
    tail_text (tail_number h b c a) ≡ head_text h ++ (replicate b X ++ (replicate c S ++ replicate a W))
unfolding tail_text
tail_spelled h b c a b2 c4 a8 =
    let fields = tail_fields h b c a b2 c4 a8 in
    simp (fields.0, fields.1, fields.2, fields.3)

-- a tail's number, read off its text: its head by its first two bytes, the counts of X, S and W, less the head's S

count : ℕ → List ℕ → ℕ
count b [] = 0
count b (x ∷ s) = cond (eqb x b) (suc (count b s)) (count b s)

begins_with_H : List ℕ → Bool
begins_with_H [] = false
begins_with_H (b ∷ s) = eqb b H

head_read : List ℕ → ℕ
head_read [] = 0
head_read (b ∷ s) = cond (eqb b H) 1 (cond (begins_with_H s) 2 0)

tail_read : List ℕ → ℕ
tail_read s = tail_number (head_read s) (count X s) (count S s - head_read s / 2) (count W s)

reads_itself : ℕ → Bool
reads_itself n = eqb (tail_read (tail_text n)) n

all_read : Holds (every tails reads_itself)
unfolding every reads_itself tail_read head_read begins_with_H count tail_text head_text
all_read = tt

tail_read_back : (n : ℕ) → n < tails → tail_read (tail_text n) ≡ n
unfolding reads_itself
tail_read_back n below = eqb→eq (tail_read (tail_text n)) n (every_at tails reads_itself all_read n below)

-- no two tails have one text
pub tails_distinct : (m n : ℕ) → m < tails → n < tails → tail_text m ≡ tail_text n → m ≡ n
tails_distinct m n below below' same = sym (tail_read_back m below) ∙ ap tail_read same ∙ tail_read_back n below'

-- the parts after the front

-- a text that a syllable begins is no tail, since it holds a T
pub syllable_is_no_tail : (s : Syllable) (u : List ℕ) (n : ℕ) → syllable_text s ++ u ≡ tail_text n → ⊥
syllable_is_no_tail s u n same =
    omega (arith, ap t_count same, t_count_append (syllable_text s) u, t_count_syllable s, t_count_tail n)

H_is_not_S : H ≡ S → ⊥
H_is_not_S e = omega arith

first_byte : List ℕ → ℕ
first_byte s = get_or s 0 0

-- a text begins with one syllable at most
pub syllable_unique :
    (s s' : Syllable) (u v : List ℕ) → syllable_text s ++ u ≡ syllable_text s' ++ v → (s ≡ s') × (u ≡ v)
unfolding syllable_text first_byte
syllable_unique HT HT u v same = (refl, ap (drop 2) same)
syllable_unique HT SHT u v same = absurd (H_is_not_S (ap first_byte same))
syllable_unique SHT HT u v same = absurd (H_is_not_S (sym (ap first_byte same)))
syllable_unique SHT SHT u v same = (refl, ap (drop 3) same)

-- syllables and tail alike
pub record SameRest (ss ss' : List Syllable) (m n : ℕ) : Type 0 where
  pub syllables : ss ≡ ss'
  pub tail : m ≡ n

pub rest_unique :
    (ss ss' : List Syllable) (m n : ℕ) → m < tails → n < tails →
    syllables_text ss ++ tail_text m ≡ syllables_text ss' ++ tail_text n → SameRest ss ss' m n
unfolding syllables_text
rest_unique [] [] m n below below' same = record { syllables = refl; tail = tails_distinct m n below below' same }
rest_unique [] (s ∷ ss') m n below below' same = absurd (syllable_is_no_tail s _ m (simp append_assoc at (sym same)))
rest_unique (s ∷ ss) [] m n below below' same = absurd (syllable_is_no_tail s _ n (simp append_assoc at same))
rest_unique (s ∷ ss) (s' ∷ ss') m n below below' same =
    let parts = syllable_unique s s' _ _ (simp append_assoc at same) in
    let rest = rest_unique ss ss' m n below below' parts.1 in
    record { syllables = ap₂ (λ (x : Syllable) (l : List Syllable). x ∷ l) parts.0 rest.syllables; tail = rest.tail }

no_T : (b : Bool) → front_count b ≤ 0 → b ≡ false
no_T true h = absurd (not-suc-le-zero h)
no_T false h = refl

-- the whole form

-- after the front no text begins with T: "one that can't begin with T"
pub rest_begins_without_T : (ss : List Syllable) (n : ℕ) → begins_with_T (syllables_text ss ++ tail_text n) ≡ false
unfolding syllables_text syllable_text begins_with_T
rest_begins_without_T [] n = no_T (begins_with_T (tail_text n)) (omega (arith, h_count_within (tail_text n), t_count_tail n))
rest_begins_without_T (HT ∷ ss) n = refl
rest_begins_without_T (SHT ∷ ss) n = refl

-- the rest of a text after its front
front_unique :
    (b b' : Bool) (s t : List ℕ) → begins_with_T s ≡ false → begins_with_T t ≡ false →
    front_text b ++ s ≡ front_text b' ++ t → (b ≡ b') × (s ≡ t)
unfolding front_text begins_with_T
front_unique true true s t e f same = (refl, ap (drop 1) same)
front_unique true false s t e f same = absurd (true≢false (ap begins_with_T same ∙ f))
front_unique false true s t e f same = absurd (true≢false (sym (ap begins_with_T same) ∙ e))
front_unique false false s t e f same = (refl, same)

-- a text is spelled by one list of parts at most
pub parts_unique : (p q : Parts) → p.tail < tails → q.tail < tails → form_text p ≡ form_text q → p ≡ q
unfolding form_text
parts_unique p q below below' same =
    let no_T_p = rest_begins_without_T p.syllables p.tail in
    let no_T_q = rest_begins_without_T q.syllables q.tail in
    let fronts = front_unique p.front q.front _ _ no_T_p no_T_q same in
    let rests = rest_unique p.syllables q.syllables p.tail q.tail below below' fronts.1 in
    λ i. record { front = fronts.0 i; syllables = rests.syllables i; tail = rests.tail i }

-- the same of a text that is a form
pub form_parts_unique : {text : List ℕ} (f g : Form text) → f.parts ≡ g.parts
form_parts_unique f g = parts_unique f.parts g.parts f.in_tails g.in_tails (sym f.spelled ∙ g.spelled)
