-- `frame::write_digits` meets its contract: three parts are put one after the other, and the bytes after them stay.
-- Assumes nothing.
use Rattle.std.proofs.Common.{◌≡◌, ℕ, ◌+◌, ◌%◌, ◌^◌, ◌≤◌, List, ◌++◌, length, take, drop, sym, ap, ◌∙◌, ap₂, append_assoc, arith, length-append, length-take-le}
use borrow.Rule.Slice.PartMut.{put_mid}
use Rattle.matrix.specs.declared.Matrix.{Matrix}
use Rattle.answer.specs.Limits.{frame_length}
use Rattle.answer.specs.Written.{put}
use Rattle.coefficients.specs.Coefficients.{coefficients}
use Rattle.frame.specs.Digit.{digits}
use Rattle.frame.specs.Frame.{words, words_text, total, check_word, frame_text}
use Rattle.frame.proofs.Digits.{digits_length}
use Rattle.frame.proofs.Spelled.{record_text_length, frame_text_length}
use Rattle.frame.proofs.Parts.{put_more, after_front}
use Rattle.frame.proofs.write_digits.Goals as goal

-- a record's words and a check word, put after the two digits of the exponent
module _ (m : Matrix) (before first second : List ℕ) (room : frame_length ≤ length before)
    (e : first ≡ digits 2 m.exponent) (f : second ≡ words_text (words (coefficients m))) where
  two : length first ≡ 2
  two = ap length e ∙ digits_length 2 m.exponent

  joined : put_mid 2 128 (first ++ drop 2 before) second ≡ (first ++ second) ++ drop 130 before
  joined = put_more first second before 2 128 two (ap length f ∙ record_text_length m)

  joined_length : length (first ++ second) ≡ 130
  joined_length = length-append first second ∙ ap₂ ◌+◌ two (ap length f ∙ record_text_length m)

  -- there is room for eight more digits
  eight : length (take 8 (drop 130 (put_mid 2 128 (first ++ drop 2 before) second))) ≡ 8
  eight = ap (λ (s : List ℕ). length (take 8 (drop 130 s))) joined ∙ after_front (first ++ second) before 130 8 joined_length room

  three_parts :
      (third : List ℕ) → third ≡ digits 8 (check_word m) →
      put_mid 130 8 (put_mid 2 128 (first ++ drop 2 before) second) third ≡ put (frame_text m (check_word m)) before
  unfolding put frame_text
  three_parts third g =
      ap (λ (s : List ℕ). put_mid 130 8 s third) joined
      ∙ put_more (first ++ second) third before 130 8 joined_length (ap length g ∙ digits_length 8 (check_word m))
      ∙ ap₂ ◌++◌ (append_assoc first second third ∙ ap₂ ◌++◌ e (ap₂ ◌++◌ f g))
      (ap (λ (n : ℕ). drop n before) (sym (frame_text_length m (check_word m))))

-- a number is written into a part in as many digits as the part has bytes
as_long : {part : List ℕ} {size k : ℕ} (n : ℕ) → part ≡ digits size n → size ≡ k → part ≡ digits k n
as_long n e f = e ∙ ap (λ (k : ℕ). digits k n) f

-- the check word is the sum of the record's words
sum_is : {sum : ℕ} (m : Matrix) (ws : List ℕ) → sum ≡ (m.exponent + total ws) % 2 ^ 32 → ws ≡ words (coefficients m) → sum ≡ check_word m
unfolding check_word
sum_is m ws e f = e ∙ ap (λ (s : List ℕ). (m.exponent + total s) % 2 ^ 32) f

pub write_words-requires : goal.write_words-requires
write_words-requires c =
    let first = as_long _ c.write_number.ensures (length-take-le 2 c.args.buffer.now (omega arith)) in
    after_front c.write_number.new.part c.args.buffer.now 2 128 (ap length first ∙ digits_length 2 _) (omega arith)

pub returns : goal.returns
returns c =
    let m = c.args.m in
    let buffer = c.args.buffer.now in
    let room = c.requires.frame_length_in_bounds in
    let ws = c.words_of-words.ensures in
    let e = as_long _ c.write_number.ensures (length-take-le 2 buffer (omega arith)) in
    let f = c.write_words.ensures ∙ ap words_text ws in
    three_parts m buffer c.write_number.new.part c.write_words.new.part room e f c.write_number-2.new.part
    (c.write_number-2.ensures ∙ ap₂ digits (eight m buffer c.write_number.new.part c.write_words.new.part room e f) (sum_is m _ c.check_word.ensures ws))
