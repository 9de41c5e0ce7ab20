-- `frame::check_word` meets its contract. The loop's invariant: the sum is that of the exponent and the words before the
-- loop's place, modulo 2^32. Assumes nothing.
use Rattle.std.proofs.Common.{◌≡◌, ◌+◌, ◌%◌, ◌^◌, take}
use Rattle.frame.specs.Frame.{total}
use Rattle.frame.proofs.check_word.Given as goal

abbrev pub invariant-loop-word : goal.invariant-loop-word
invariant-loop-word l = l.sum ≡ (l.exponent + total (take l.word-index l.words)) % 2 ^ 32
