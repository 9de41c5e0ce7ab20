-- A text spells at most one record and one check word, has 138 bytes, and they are digits. Assumes
-- nothing.
use Rattle.std.proofs.Common.{◌≡◌, ℕ, List, ◌++◌, length, sym, ap, ◌∙◌, subst, arith, length-append}
use Rattle.lists.proofs.List.{every_join}
use Rattle.matrix.specs.declared.Matrix.{Matrix}
use Rattle.answer.specs.Limits.{frame_length}
use Rattle.coefficients.specs.Coefficients.{coefficients}
use Rattle.coefficients.proofs.ReadBack.{sixteen, coefficients_once}
use Rattle.frame.specs.Digit.{digits, Digits}
use Rattle.frame.specs.Frame.{words, words_text, frame_text, Spells}
use Rattle.frame.proofs.Digits.{digits_length, digits_are_digits, digits_once, join_once}
use Rattle.frame.proofs.Words.{words_length, words_text_length, words_text_digits, words_once}

-- ---- the text of a frame
module _ (m : Matrix) where
  pub record_text_length : length (words_text (words (coefficients m))) ≡ 128
  record_text_length = words_text_length (words (coefficients m)) ∙ omega (arith, words_length (coefficients m), sixteen m)

  pub frame_text_length : (check : ℕ) → length (frame_text m check) ≡ frame_length
  unfolding frame_text
  frame_text_length check =
      simp length-append (omega (arith, digits_length 2 m.exponent, record_text_length, digits_length 8 check))

  pub frame_text_digits : (check : ℕ) → Digits (frame_text m check)
  unfolding frame_text
  frame_text_digits check =
      every_join (digits_are_digits 2 m.exponent) (every_join (words_text_digits (words (coefficients m))) (digits_are_digits 8 check))

pub spells_length : {text : List ℕ} {m : Matrix} {check : ℕ} → Spells text m check → length text ≡ frame_length
spells_length {m = m} {check = check} s = ap length s.digits ∙ frame_text_length m check

pub spells_digits : {text : List ℕ} {m : Matrix} {check : ℕ} → Spells text m check → Digits text
spells_digits {m = m} {check = check} s = subst Digits (sym s.digits) (frame_text_digits m check)

-- a text spells one record and one check word at most
pub spells_once : {text : List ℕ} {m n : Matrix} {c d : ℕ} → Spells text m c → Spells text n d → (m ≡ n) × (c ≡ d)
unfolding frame_text
spells_once {m = m} {n = n} {c = c} {d = d} s t =
    let outer =
    join_once (digits 2 m.exponent) (digits 2 n.exponent) (words_text (words (coefficients m)) ++ digits 8 c) (words_text (words (coefficients n)) ++ digits 8 d)
    (digits_length 2 m.exponent ∙ sym (digits_length 2 n.exponent)) (sym s.digits ∙ t.digits) in
    let inner =
    join_once (words_text (words (coefficients m))) (words_text (words (coefficients n))) (digits 8 c) (digits 8 d)
    (record_text_length m ∙ sym (record_text_length n)) outer.1 in
    let exponents = digits_once 2 m.exponent n.exponent s.exponent t.exponent outer.0 in
    let lists = words_once s.coefficients t.coefficients (sixteen m ∙ sym (sixteen n)) inner.0 in
    (coefficients_once m n exponents lists, digits_once 8 c d s.check_word t.check_word inner.1)
