-- A frame's text, part by part: words read and written one after the other, and parts joined. Assumes nothing.
use Rattle.std.proofs.Common.{refl, ◌≡◌, ℕ, suc, ◌+◌, ◌-◌, ◌*◌, ◌%◌, ◌^◌, ◌<◌, ◌≤◌, List, [], ◌∷◌, ◌++◌, length, get_or, take, drop, sym, ap, ◌∙◌, subst, ap₂, append_assoc, append-nil, add-one, arith, length-append, length-drop, take-append-drop, length-take, length-take-le, take_all, take-suc, drop-drop, take_at, drop_at}
use borrow.Rule.Slice.PartMut.{put_mid}
use Rattle.std.proofs.lemmas.List.{length-map}
use Rattle.lists.proofs.List.{every_take, every_drop}
use Rattle.matrix.specs.declared.Matrix.{Matrix}
use Rattle.answer.specs.Limits.{frame_length}
use Rattle.coefficients.specs.Coefficients.{coefficients, record_of}
use Rattle.coefficients.proofs.ReadBack.{coefficients_read_back}
use Rattle.frame.specs.Digit.{digits, Digits}
use Rattle.frame.specs.Frame.{words, words_text, total, check_word, frame_text, InWords, Spells}
use Rattle.frame.specs.Parts.{number_of}
use Rattle.frame.proofs.Digits.{digits_length, spelled}
use Rattle.frame.proofs.Words.{signed, words_signed, signed_in_words}

-- the words of a text with one more
pub words_text_more : (ws : List ℕ) (w : ℕ) → words_text (ws ++ (w ∷ [])) ≡ words_text ws ++ digits 8 w
unfolding words_text
words_text_more [] w = append-nil (digits 8 w)
words_text_more (v ∷ rest) w =
    ap (λ (s : List ℕ). digits 8 v ++ s) (words_text_more rest w)
    ∙ sym (append_assoc (digits 8 v) (words_text rest) (digits 8 w))

pub total_more : (ws : List ℕ) (w : ℕ) → total (ws ++ (w ∷ [])) ≡ total ws + w
unfolding total
total_more [] w = omega arith
total_more (v ∷ rest) w = omega (arith, total_more rest w)

-- the sum of the words with one more, modulo 2^32
pub sum_more :
    (ws : List ℕ) (i k sum : ℕ) → i < length ws → sum ≡ (k + total (take i ws)) % 2 ^ 32 →
    (sum + get_or ws i 0) % 2 ^ 32 ≡ (k + total (take (i + 1) ws)) % 2 ^ 32
sum_more ws i k sum h e =
    let more = ap total (ap (λ (m : ℕ). take m ws) (add-one i) ∙ take-suc ws i 0 h) ∙ total_more (take i ws) (get_or ws i 0) in
    omega arith

-- the text of a part
abbrev pub part : ℕ → ℕ → List ℕ → List ℕ
part from to text = take (to - from) (drop from text)

pub part_length : (from to : ℕ) (text : List ℕ) → from ≤ to → to ≤ length text → length (part from to text) ≡ to - from
part_length from to text h k = simp (length-take, length-drop) (omega arith)

-- a number is read of digits
pub number_spelled : (size : ℕ) (text : List ℕ) → length text ≡ size → Digits text → text ≡ digits size (number_of text)
number_spelled size text e all = spelled text all ∙ ap (λ (k : ℕ). digits k (number_of text)) e

-- words are read of eight digits each
pub words_spelled :
    (ws text : List ℕ) → length text ≡ 8 * length ws → Digits text →
    ((i : ℕ) → i < length ws → get_or ws i 0 ≡ number_of (part (8 * i) (8 * i + 8) text)) → text ≡ words_text ws
unfolding words_text
words_spelled [] text e all read = empty text (omega arith)
  where
    empty : (s : List ℕ) → length s ≡ 0 → s ≡ []
    empty [] l = refl
    empty (b ∷ s) l = absurd (omega arith)
words_spelled (w ∷ ws) text e all read =
    sym (take-append-drop 8 text) ∙ ap₂ ◌++◌ first (words_spelled ws (drop 8 text) (omega (arith, length-drop 8 text)) (every_drop 8 all) rest)
  where
    first : take 8 text ≡ digits 8 w
    first =
        number_spelled 8 (take 8 text) (length-take-le 8 text (omega arith)) (every_take 8 all)
        ∙ ap (digits 8) (sym (read 0 (omega arith)))

    rest : (i : ℕ) → i < length ws → get_or ws i 0 ≡ number_of (part (8 * i) (8 * i + 8) (drop 8 text))
    rest i h = read (suc i) (omega arith) ∙ ap number_of (ap₂ (λ (k : ℕ) (s : List ℕ). take k s) (omega arith) moved)
      where
        moved : drop (8 * suc i) text ≡ drop (8 * i) (drop 8 text)
        moved = ap (λ (n : ℕ). drop n text) (omega arith) ∙ sym (drop-drop (8 * i) 8 text)

-- ---- parts written
-- a part put in its place, after what stands before it
pub front_of_put : (a n : ℕ) (xs ys rest : List ℕ) → a ≤ length xs → length ys ≡ n → take (a + n) (take a xs ++ (ys ++ rest)) ≡ take a xs ++ ys
front_of_put a n xs ys rest h e =
    ap (take (a + n)) (sym (append_assoc (take a xs) ys rest))
    ∙ take_at (take a xs ++ ys) rest (a + n) (length-append (take a xs) ys ∙ ap₂ ◌+◌ (length-take-le a xs h) e)

-- a part put after a front that is written, into what was there before
pub put_more :
    (s t before : List ℕ) (a k : ℕ) → length s ≡ a → length t ≡ k →
    put_mid a k (s ++ drop a before) t ≡ (s ++ t) ++ drop (a + k) before
put_more s t before a k e f =
    ap₂ (λ (x y : List ℕ). x ++ (t ++ y)) (take_at s (drop a before) a e)
    (ap (drop k) (drop_at s (drop a before) a e) ∙ drop-drop k a before)
    ∙ sym (append_assoc s t (drop (a + k) before))

-- what stands after such a front has the length that it had
pub after_front : (s before : List ℕ) (a k : ℕ) → length s ≡ a → a + k ≤ length before → length (take k (drop a (s ++ drop a before))) ≡ k
after_front s before a k e h =
    ap (λ (x : List ℕ). length (take k x)) (drop_at s (drop a before) a e)
    ∙ length-take-le k (drop a before) (omega (arith, length-drop a before))

-- a word more is written
pub write_step :
    (text ys rest ws : List ℕ) (i : ℕ) → i < length ws → 8 * i ≤ length text →
    take (8 * i) text ≡ words_text (take i ws) → ys ≡ digits 8 (get_or ws i 0) →
    take (8 * (i + 1)) (take (8 * i) text ++ (ys ++ rest)) ≡ words_text (take (i + 1) ws)
write_step text ys rest ws i h k e f =
    ap (λ (m : ℕ). take m (take (8 * i) text ++ (ys ++ rest))) longer
    ∙ front_of_put (8 * i) 8 text ys rest k (ap length f ∙ digits_length 8 (get_or ws i 0))
    ∙ ap₂ ◌++◌ e f
    ∙ sym (words_text_more (take i ws) (get_or ws i 0))
    ∙ ap words_text (sym (ap (λ (m : ℕ). take m ws) (add-one i) ∙ take-suc ws i 0 h))
  where
    longer : 8 * (i + 1) ≡ 8 * i + 8
    longer = omega arith

-- ---- parts joined
-- what a text spells, and the right check word beside the one that it holds
pub record FrameRead (text : List ℕ) (m : Matrix) (check sum : ℕ) : Type 0 where
  pub spells : Spells text m check
  pub right : sum ≡ check_word m

-- a text's exponent, sixteen words and check word, as they are read
module _
    (text ws : List ℕ) (exponent check : ℕ) (long : length text ≡ frame_length) (all : Digits text)
    (first : exponent ≡ number_of (take 2 text)) (small : exponent < 16 ^ length (take 2 text)) (sixteen : length ws ≡ 16)
    (fit : (i : ℕ) → get_or ws i 0 < 2 ^ 32)
    (each : (i : ℕ) → i < length ws → get_or ws i 0 ≡ number_of (part (8 * i) (8 * i + 8) (part 2 130 text)))
    (last : check ≡ number_of (part 130 (length text) text)) (below : check < 2 ^ 32) where
  two : length (take 2 text) ≡ 2
  two = length-take-le 2 text (omega arith)

  front : take 2 text ≡ digits 2 exponent
  front = number_spelled 2 (take 2 text) two (every_take 2 all) ∙ ap (digits 2) (sym first)

  middle : part 2 130 text ≡ words_text ws
  middle =
      words_spelled ws (part 2 130 text) (part_length 2 130 text (omega arith) (omega arith) ∙ omega arith)
      (every_take 128 (every_drop 2 all)) each

  eight : length (drop 130 text) ≡ 8
  eight = omega (arith, length-drop 130 text)

  end : drop 130 text ≡ digits 8 check
  end =
      number_spelled 8 (drop 130 text) eight (every_drop 130 all)
      ∙ ap (λ (s : List ℕ). digits 8 (number_of s)) (sym (take_all (length text - 130) (drop 130 text) (omega (arith, eight))))
      ∙ ap (digits 8) (sym last)

  spelled_parts : text ≡ digits 2 exponent ++ (words_text ws ++ digits 8 check)
  spelled_parts =
      sym (take-append-drop 2 text)
      ∙ ap₂ ◌++◌ front (sym (take-append-drop 128 (drop 2 text)) ∙ ap₂ ◌++◌ middle (drop-drop 128 2 text ∙ end))

  read_back : coefficients (record_of exponent (signed ws)) ≡ signed ws
  read_back = coefficients_read_back exponent (signed ws) (length-map ws _ ∙ sixteen)

  same_words : words (coefficients (record_of exponent (signed ws))) ≡ ws
  same_words = ap words read_back ∙ words_signed ws fit

  spells : Spells text (record_of exponent (signed ws)) check
  unfolding frame_text record_of
  spells = record {
    exponent = subst (λ (k : ℕ). exponent < 16 ^ k) two small;
    coefficients = subst InWords (sym read_back) (signed_in_words ws fit);
    check_word = below;
    digits = spelled_parts ∙ ap (λ (s : List ℕ). digits 2 exponent ++ (words_text s ++ digits 8 check)) (sym same_words);
  }

  right_sum : (exponent + total ws) % 2 ^ 32 ≡ check_word (record_of exponent (signed ws))
  unfolding check_word record_of
  right_sum = ap (λ (s : List ℕ). (exponent + total s) % 2 ^ 32) (sym same_words)

  pub frame_read : {m : Matrix} {sum : ℕ} → m ≡ record_of exponent (signed ws) → sum ≡ (exponent + total ws) % 2 ^ 32 → FrameRead text m check sum
  frame_read e added = rw e (record { spells = spells; right = added ∙ right_sum })

-- the check word that a text spells is the right one where the two are equal
pub right_word : {text : List ℕ} {m : Matrix} {check sum : ℕ} → FrameRead text m check sum → check ≡ sum → Spells text m (check_word m)
right_word {text} {m} read e = subst (Spells text m) (e ∙ read.right) read.spells
