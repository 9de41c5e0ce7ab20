-- The counts of a form's text: how many T's and H's and how many bytes its parts hold.
-- A form's T-count is one for its front and one for each syllable, its H-count is the number of its syllables, and its
-- length is at most 3 times its T-count and 13. Assumes nothing.
use Prim.Native.Nat.{ℕ, zero, suc, ◌+◌, ◌*◌, ◌≤◌}
use native.Mathlib.Nat.{zero-add, suc-add, add-zero}
use native.Mathlib.Omega.{arith}
use mathlib.Core.Bool.{Bool, true, false, cond}
use mathlib.Core.List.{List, [], ◌∷◌, ◌++◌, append_assoc}
use mathlib.Core.Path.{◌≡◌, refl, sym, ap, ◌∙◌}
use lib.Dec.{eqb}
use lib.ListN.{length, replicate, length-append, length-replicate}
use Rattle.matrix.specs.Letter.{H, S, T, W, X}
use Rattle.form.specs.Tail.{tail_h, tail_b, tail_c, tail_a, head_text, tail_text}
use Rattle.form.specs.Form.{Syllable, HT, SHT, Parts, syllable_text, syllables_text, front_text, form_text}
use Rattle.form.specs.Count.{t_count, begins_with_T, h_count}

-- T-count of a text and of its parts

counted_more : (t : Bool) (m n : ℕ) → cond t (suc (m + n)) (m + n) ≡ cond t (suc m) m + n
counted_more true m n = sym (suc-add m n)
counted_more false m n = refl

pub t_count_append : (s t : List ℕ) → t_count (s ++ t) ≡ t_count s + t_count t
unfolding t_count
t_count_append [] t = sym (zero-add (t_count t))
t_count_append (b ∷ s) t =
    ap (λ (k : ℕ). cond (eqb b T) (suc k) k) (t_count_append s t) ∙ counted_more (eqb b T) (t_count s) (t_count t)

-- a text holds at most as many T's as bytes
pub t_count_within : (s : List ℕ) → t_count s ≤ length s
unfolding t_count
t_count_within [] = omega arith
t_count_within (b ∷ s) = at_most (eqb b T) (t_count s) (length s) (t_count_within s)
  where
    at_most : (t : Bool) (m n : ℕ) → m ≤ n → cond t (suc m) m ≤ suc n
    at_most true m n w = omega arith
    at_most false m n w = omega arith

pub t_count_replicate : (n b : ℕ) → eqb b T ≡ false → t_count (replicate n b) ≡ 0
unfolding t_count
t_count_replicate zero b e = refl
t_count_replicate (suc n) b e = ap (λ (t : Bool). cond t (suc (t_count (replicate n b))) (t_count (replicate n b))) e ∙ t_count_replicate n b e

pub t_count_head : (h : ℕ) → t_count (head_text h) ≡ 0
unfolding t_count head_text
t_count_head zero = refl
t_count_head (suc zero) = refl
t_count_head (suc (suc h)) = refl

-- a tail holds no T
pub t_count_tail : (n : ℕ) → t_count (tail_text n) ≡ 0
unfolding tail_text
t_count_tail n =
    t_count_append (head_text (tail_h n)) (replicate (tail_b n) X ++ (replicate (tail_c n) S ++ replicate (tail_a n) W))
    ∙ simp (t_count_append, t_count_head, t_count_replicate (tail_b n) X refl, t_count_replicate (tail_c n) S refl, t_count_replicate (tail_a n) W refl)

pub t_count_syllable : (s : Syllable) → t_count (syllable_text s) ≡ 1
unfolding t_count syllable_text
t_count_syllable HT = refl
t_count_syllable SHT = refl

pub t_count_syllables : (ss : List Syllable) → t_count (syllables_text ss) ≡ length ss
unfolding t_count syllables_text
t_count_syllables [] = refl
t_count_syllables (s ∷ ss) =
    t_count_append (syllable_text s) (syllables_text ss) ∙ omega (arith, t_count_syllable s, t_count_syllables ss)

-- the T of the front
abbrev pub front_count : Bool → ℕ
front_count true = 1
front_count false = 0

pub t_count_front : (b : Bool) → t_count (front_text b) ≡ front_count b
unfolding t_count front_text
t_count_front true = refl
t_count_front false = refl

pub t_count_form : (p : Parts) → t_count (form_text p) ≡ front_count p.front + length p.syllables
unfolding form_text
t_count_form p = simp (t_count_append, t_count_front, t_count_syllables, t_count_tail, add-zero)

-- H-count of a text and of its parts

ends_syllable : (h t : Bool) (m n : ℕ) → m + front_count t ≤ n → cond h (cond t (suc m) m) m ≤ n
ends_syllable true true m n w = omega arith
ends_syllable true false m n w = omega arith
ends_syllable false t m n w = omega arith

one_more_T : (t : Bool) (m n : ℕ) → m ≤ n → m + front_count t ≤ cond t (suc n) n
one_more_T true m n w = omega arith
one_more_T false m n w = omega arith

-- each syllable ends in a T of its own, and the T in front of a text ends none
pub h_count_within : (s : List ℕ) → h_count s + front_count (begins_with_T s) ≤ t_count s
unfolding h_count begins_with_T t_count
h_count_within [] = omega arith
h_count_within (b ∷ s) =
    one_more_T (eqb b T) _ (t_count s) (ends_syllable (eqb b H) (begins_with_T s) (h_count s) (t_count s) (h_count_within s))

-- a tail holds no syllable
pub h_count_tail : (n : ℕ) → h_count (tail_text n) ≡ 0
h_count_tail n = omega (arith, h_count_within (tail_text n), t_count_tail n)

pub h_count_syllable : (s : Syllable) (rest : List ℕ) → h_count (syllable_text s ++ rest) ≡ suc (h_count rest)
unfolding h_count begins_with_T syllable_text
h_count_syllable HT rest = refl
h_count_syllable SHT rest = refl

pub h_count_syllables : (ss : List Syllable) (rest : List ℕ) → h_count (syllables_text ss ++ rest) ≡ length ss + h_count rest
unfolding syllables_text
h_count_syllables [] rest = sym (zero-add (h_count rest))
h_count_syllables (s ∷ ss) rest =
    ap h_count (append_assoc (syllable_text s) (syllables_text ss) rest)
    ∙ h_count_syllable s (syllables_text ss ++ rest)
    ∙ omega (arith, h_count_syllables ss rest)

pub h_count_front : (b : Bool) (rest : List ℕ) → h_count (front_text b ++ rest) ≡ h_count rest
unfolding h_count front_text
h_count_front true rest = refl
h_count_front false rest = refl

-- "H-count: the number of syllables HT and SHT"
pub syllables_are_counted : (p : Parts) → h_count (form_text p) ≡ length p.syllables
unfolding form_text
syllables_are_counted p = simp (h_count_front, h_count_syllables, h_count_tail, add-zero)

-- lengths of the parts

pub length_front : (b : Bool) → length (front_text b) ≡ front_count b
unfolding front_text
length_front true = refl
length_front false = refl

pub length_syllable : (s : Syllable) → length (syllable_text s) ≤ 3
unfolding syllable_text
length_syllable HT = omega arith
length_syllable SHT = omega arith

pub length_syllables : (ss : List Syllable) → length (syllables_text ss) ≤ 3 * length ss
unfolding syllables_text
length_syllables [] = omega arith
length_syllables (s ∷ ss) =
    omega (arith, length-append (syllable_text s) (syllables_text ss), length_syllable s, length_syllables ss)

pub length_head : (h : ℕ) → length (head_text h) ≤ 2
unfolding head_text
length_head zero = omega arith
length_head (suc zero) = omega arith
length_head (suc (suc h)) = omega arith

pub length_tail : (n : ℕ) → length (tail_text n) ≡ length (head_text (tail_h n)) + (tail_b n + (tail_c n + tail_a n))
unfolding tail_text
length_tail n = simp (length-append, length-replicate)

-- "X at most once, S at most three times, W at most seven times", after at most two bytes
pub tail_is_short : (n : ℕ) → length (tail_text n) ≤ 13
tail_is_short n = omega (arith, length_tail n, length_head (tail_h n))

-- "a form made from n letters has at most 3n + 13 bytes": what its T-count gives
pub form_is_short : (p : Parts) → length (form_text p) ≤ 3 * t_count (form_text p) + 13
unfolding form_text
form_is_short p =
    omega (
      arith,
      t_count_form p,
      length-append (front_text p.front) (syllables_text p.syllables ++ tail_text p.tail),
      length-append (syllables_text p.syllables) (tail_text p.tail),
      length_front p.front,
      length_syllables p.syllables,
      tail_is_short p.tail,
    )
