-- `frame::write_words` meets its contract. The loop's invariant: the words before the loop's place are written. Assumes nothing.
use Rattle.std.proofs.Common.{◌≡◌, ◌*◌, take}
use Rattle.frame.specs.Frame.{words_text}
use Rattle.frame.proofs.write_words.Given as goal

abbrev pub invariant-loop-i : goal.invariant-loop-i
invariant-loop-i l = take (8 * l.i) l.part ≡ words_text (take l.i l.words)
