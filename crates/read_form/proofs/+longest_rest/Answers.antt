-- `read_form::longest_rest` meets its contract: a tail alone, or a syllable and the longest rest. Assumes nothing.
use Rattle.std.proofs.Common.{arith}
use Rattle.read_form.specs.Part.{NoFront}
use Rattle.read_form.proofs.Taking.{to_the_end}
use Rattle.read_form.proofs.Rests.{rest_fits, longest_without_syllable, longest_after_syllable}
use Rattle.read_form.proofs.+longest_rest.Goals as goal

pub returns-then-k-eq0 : goal.returns-then-k-eq0
returns-then-k-eq0 t c = longest_without_syllable _ _ _ c.if-k-eq0.true c.syllable_length-k.ensures c.longest_tail.ensures

pub overflow_add-result-2 : goal.overflow_add-result-2
overflow_add-result-2 t c =
    let inside = c.syllable_length-k.ensures.within in
    record { fits = omega (arith, (rest_fits NoFront c.args.text.now _ _ (omega arith) inside c.longest_rest-rest.ensures).1) }

pub overflow_add-result-3 : goal.overflow_add-result-3
overflow_add-result-3 t c =
    let inside = c.syllable_length-k.ensures.within in
    record { fits = omega (arith, (rest_fits NoFront c.args.text.now _ _ (omega arith) inside c.longest_rest-rest.ensures).2) }

pub returns : goal.returns
returns t c =
    longest_after_syllable _ _ _ (omega arith) c.syllable_length-k.ensures (rw to_the_end at c.longest_rest-rest.ensures)
