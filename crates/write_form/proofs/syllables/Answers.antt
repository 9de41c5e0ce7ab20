-- `write_form::syllables` meets its contract: a T at the bottom is the one code that is no syllable. Assumes nothing.
use Rattle.write_form.proofs.Codes.{counted_over_T, counted_all}
use Rattle.write_form.proofs.syllables.Goals as goal

pub returns-then-codes-eq0 : goal.returns-then-codes-eq0
returns-then-codes-eq0 c = counted_over_T _ c.if-codes-eq0.true c.requires

pub returns : goal.returns
returns c = counted_all _ c.if-codes-eq0.false c.requires
