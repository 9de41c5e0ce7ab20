-- `frame::read_words` meets its contract. The loop's invariant: the words before the loop's place are read. Assumes nothing.
use Rattle.std.proofs.Common.{◌≡◌, ℕ, ◌+◌, ◌*◌, ◌<◌, get_or, slice_range}
use Rattle.frame.specs.Parts.{number_of}
use Rattle.frame.proofs.read_words.Given as goal

abbrev pub invariant-loop-i : goal.invariant-loop-i
invariant-loop-i l = (k : ℕ) → k < l.i → get_or l.word-items k 0 ≡ number_of (slice_range l.text (8 * k) (8 * k + 8))
