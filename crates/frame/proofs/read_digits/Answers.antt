-- `frame::read_digits` meets its contract: the check word is compared before the record is judged. Assumes nothing.
use Rattle.std.proofs.Common.{◌≡◌, ℕ, ◌<◌, ◌^◌, length, get_or, refl, sym, ◌∙◌, rules}
use Rattle.std.proofs.lemmas.Result.{err_from_is_err_and}
use Rattle.frame.specs.Calls.{refused_frame, accepted_frame, bad_check_word, bad_record}
use Rattle.frame.proofs.Parts.{frame_read, right_word}
use Rattle.frame.proofs.read_digits.Goals as goal

pub returns-then-number-check_word : goal.returns-then-number-check_word
returns-then-number-check_word c =
    let sixteen : length c.read_words-words.result ≡ 16 = search rules in
    let fit : (i : ℕ) → get_or c.read_words-words.result i 0 < 2 ^ 32 = λ i. search rules in
    let read = frame_read c.args.text.now _ _ _ c.requires.text_len c.requires.digits c.number-exponent.ensures.value c.number-exponent.ensures.below sixteen fit
    c.read_words-words.ensures c.number.ensures.value (search rules) refl c.check_word.ensures in
    refused_frame (bad_check_word read.spells (λ same. c.if-number-check_word.true (same ∙ sym read.right)))

pub returns-in_err-judge : goal.returns-in_err-judge
returns-in_err-judge c =
    let sixteen : length c.read_words-words.result ≡ 16 = search rules in
    let fit : (i : ℕ) → get_or c.read_words-words.result i 0 < 2 ^ 32 = λ i. search rules in
    let read = frame_read c.args.text.now _ _ _ c.requires.text_len c.requires.digits c.number-exponent.ensures.value c.number-exponent.ensures.below sixteen fit
    c.read_words-words.ensures c.number.ensures.value (search rules) c.record_of-m.ensures c.check_word.ensures in
    let err = err_from_is_err_and c.from_residual.result c.from_residual.ensures.1 in
    rw (err.1, err.2) (refused_frame (bad_record (right_word read c.if-number-check_word.false) c.in_err-judge.ensures))

pub returns : goal.returns
returns c =
    let sixteen : length c.read_words-words.result ≡ 16 = search rules in
    let fit : (i : ℕ) → get_or c.read_words-words.result i 0 < 2 ^ 32 = λ i. search rules in
    let read = frame_read c.args.text.now _ _ _ c.requires.text_len c.requires.digits c.number-exponent.ensures.value c.number-exponent.ensures.below sixteen fit
    c.read_words-words.ensures c.number.ensures.value (search rules) c.record_of-m.ensures c.check_word.ensures in
    accepted_frame (record { spells = right_word read c.if-number-check_word.false; record_accepted = c.in_ok-judge.ensures })
