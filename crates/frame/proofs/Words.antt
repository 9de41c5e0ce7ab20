-- Coefficients as words in two's complement, and words in eight digits each: they tell the coefficients. Assumes nothing.
use Rattle.std.proofs.Common.{map, get_or, w32, ltb-false, ◌≡◌, ℕ, suc, ◌-◌, ◌*◌, ◌^◌, ◌<◌, Bool, true, false, cond, ltb, List, [], ◌∷◌, length, ℤ, pos, negsuc, sym, refl, ap, ◌∙◌, ap₂, arith, length-append, SFits, ltb-true}
use Rattle.std.specs.Int.{cast_signed, cast_unsigned}
use Rattle.lists.specs.List.{none, more}
use Rattle.lists.proofs.List.{every_join}
use Rattle.ring.specs.Bounds.{Bounded}
use Rattle.answer.specs.Limits.{coefficient_limit}
use Rattle.matrix.specs.declared.Matrix.{Matrix}
use Rattle.coefficients.specs.Coefficients.{coefficients}
use Rattle.accept_record.specs.Accept.{InLimits, AcceptedRecord}
use Rattle.accept_record.proofs.Limits.{bounded_in_limit}
use Rattle.frame.specs.Digit.{digits, Digits}
use Rattle.frame.specs.Frame.{word, words, words_text, InWord, from_zero, below_zero, InWords}
use Rattle.frame.proofs.Digits.{digits_length, digits_are_digits, digits_once, join_once}

-- ---- one word
pub word_below : {z : ℤ} → InWord z → word z < 16 ^ 8
unfolding word
word_below (from_zero h) = omega arith
word_below (below_zero h) = omega arith

-- a word tells its coefficient
pub word_once : {y z : ℤ} → InWord y → InWord z → word y ≡ word z → y ≡ z
unfolding word
word_once (from_zero h) (from_zero k) e = ap pos e
word_once (from_zero h) (below_zero k) e = absurd (omega arith)
word_once (below_zero h) (from_zero k) e = absurd (omega arith)
word_once (below_zero h) (below_zero k) e = ap negsuc (omega arith)

-- a coefficient in the limit fits a word
pub in_word : (z : ℤ) → Bounded coefficient_limit z → InWord z
in_word (pos n) h = from_zero {n = n} (omega (arith, h.size))
in_word (negsuc n) h = below_zero {n = n} (omega (arith, h.size))

pub in_words : {list : List ℤ} → InLimits list → InWords list
in_words none = none
in_words (more {a = z} e h) = more (in_word z (bounded_in_limit z e)) (in_words h)

pub accepted_in_words : {m : Matrix} → AcceptedRecord m → InWords (coefficients m)
accepted_in_words a = in_words a.inside.coefficients

-- a coefficient's bits are its word, and a word's bits are a coefficient of that word
pub word_unsigned : (z : ℤ) → cast_unsigned w32 z ≡ word z
unfolding word
word_unsigned (pos n) = refl
word_unsigned (negsuc n) = omega arith

pub word_signed : (w : ℕ) → w < 2 ^ 32 → word (cast_signed w32 w) ≡ w
unfolding word
word_signed w h = by (ltb w 2147483648) refl
  where
    by : (t : Bool) → ltb w 2147483648 ≡ t → word (cond t (pos w) (negsuc (4294967296 - suc w))) ≡ w
    by true e = refl
    by false e = omega arith

pub signed_in_word : (w : ℕ) → w < 2 ^ 32 → InWord (cast_signed w32 w)
signed_in_word w h = by (ltb w 2147483648) refl
  where
    by : (t : Bool) → ltb w 2147483648 ≡ t → InWord (cond t (pos w) (negsuc (4294967296 - suc w)))
    by true e = from_zero (ltb-true w 2147483648 e)
    by false e = let from = ltb-false w 2147483648 e in below_zero {n = 4294967296 - suc w} (omega arith)

-- a coefficient that fits a word fits 32 bits
pub in_word_fits : {z : ℤ} → InWord z → SFits w32 z
in_word_fits (from_zero h) = record { sfits = omega arith }
in_word_fits (below_zero h) = record { sfits = omega arith }

-- ---- many words
pub words_unsigned : (list : List ℤ) → map (λ z. cast_unsigned w32 z) list ≡ words list
unfolding words
words_unsigned [] = refl
words_unsigned (z ∷ rest) = ap₂ ◌∷◌ (word_unsigned z) (words_unsigned rest)

-- the coefficients of words
abbrev pub signed : List ℕ → List ℤ
signed ws = map (λ w. cast_signed w32 w) ws

pub words_signed : (ws : List ℕ) → ((i : ℕ) → get_or ws i 0 < 2 ^ 32) → words (signed ws) ≡ ws
unfolding words
words_signed [] fit = refl
words_signed (w ∷ ws) fit = ap₂ ◌∷◌ (word_signed w (fit 0)) (words_signed ws (λ i. fit (suc i)))

pub signed_in_words : (ws : List ℕ) → ((i : ℕ) → get_or ws i 0 < 2 ^ 32) → InWords (signed ws)
signed_in_words [] fit = none
signed_in_words (w ∷ ws) fit = more (signed_in_word w (fit 0)) (signed_in_words ws (λ i. fit (suc i)))

pub words_length : (list : List ℤ) → length (words list) ≡ length list
unfolding words
words_length [] = refl
words_length (z ∷ rest) = ap suc (words_length rest)

pub words_text_length : (ws : List ℕ) → length (words_text ws) ≡ 8 * length ws
unfolding words_text
words_text_length [] = refl
words_text_length (w ∷ rest) =
    length-append (digits 8 w) (words_text rest) ∙ omega (arith, digits_length 8 w, words_text_length rest)

pub words_text_digits : (ws : List ℕ) → Digits (words_text ws)
unfolding words_text
words_text_digits [] = none
words_text_digits (w ∷ rest) = every_join (digits_are_digits 8 w) (words_text_digits rest)

-- the digits of the words tell the coefficients
pub words_once : {y z : List ℤ} → InWords y → InWords z → length y ≡ length z → words_text (words y) ≡ words_text (words z) → y ≡ z
unfolding words words_text
words_once none none l e = refl
words_once none (more k ks) l e = absurd (omega arith)
words_once (more h hs) none l e = absurd (omega arith)
words_once (more {a = a} {s = more_a} h hs) (more {a = b} {s = more_b} k ks) l e =
    let parts =
    join_once (digits 8 (word a)) (digits 8 (word b)) (words_text (words more_a)) (words_text (words more_b))
    (digits_length 8 (word a) ∙ sym (digits_length 8 (word b))) e in
    ap₂ ◌∷◌ (word_once h k (digits_once 8 (word a) (word b) (word_below h) (word_below k) parts.0))
    (words_once hs ks (omega arith) parts.1)
