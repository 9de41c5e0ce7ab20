-- `frame::write_words` meets its contract. The loop's invariant: the words before the loop's place are written. Assumes nothing.
use Rattle.std.proofs.Common.{◌≡◌, ℕ, ◌+◌, ◌-◌, ◌*◌, get_or, refl, ap, ◌∙◌, arith}
use Rattle.frame.specs.Digit.{digits}
use Rattle.frame.specs.Frame.{words_text}
use Rattle.frame.proofs.Parts.{part_length, write_step}
use Rattle.frame.proofs.write_words.Goals as goal

pub loop-i-init : goal.loop-i-init
unfolding words_text
loop-i-init c = refl

pub loop-i-preserved : goal.loop-i-preserved
loop-i-preserved c =
    let i = c.loop-i.i in
    let eight : 8 * i + 8 - 8 * i ≡ 8 = omega arith in
    let long = part_length (8 * i) (8 * i + 8) c.loop-i.part (omega arith) (omega arith) ∙ eight in
    write_step c.loop-i.part c.write_number.new.part _ c.args.words.now i (omega arith) (omega arith) c.loop-i.invariant
    (c.write_number.ensures ∙ ap (λ (k : ℕ). digits k (get_or c.args.words.now i 0)) long)
