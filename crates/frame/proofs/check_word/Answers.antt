-- `frame::check_word` meets its contract. The loop's invariant: the sum is that of the exponent and the words before the
-- loop's place, modulo 2^32. Assumes nothing.
use Rattle.std.proofs.Common.{◌^◌, ◌<◌, arith, rules}
use Rattle.frame.specs.Frame.{total}
use Rattle.frame.proofs.Parts.{sum_more}
use Rattle.frame.proofs.check_word.Goals as goal

pub loop-word-init : goal.loop-word-init
unfolding total
loop-word-init c =
    let small : c.args.exponent < 2 ^ 32 = search rules in
    omega arith

pub loop-word-preserved : goal.loop-word-preserved
loop-word-preserved c =
    let l = c.loop-word in
    sum_more c.args.words.now l.word-index c.args.exponent l.sum (omega arith) l.invariant
