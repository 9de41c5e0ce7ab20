-- `read_form::longest_rest` meets its contract. The measure is the length of the text: a syllable is never empty.
use Rattle.std.proofs.Common.{length}
use Rattle.read_form.proofs.+longest_rest.Given as goal

abbrev pub decreases-longest_rest : goal.decreases-longest_rest
decreases-longest_rest l = length l.text.now
