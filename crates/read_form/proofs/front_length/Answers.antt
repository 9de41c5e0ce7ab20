-- `read_form::front_length` meets its contract, by the answers of `starts_with`. Assumes nothing.
use Rattle.read_form.specs.Part.{the_first, the_second, neither}
use Rattle.read_form.proofs.Beginning.{does_begin, does_not_begin}
use Rattle.read_form.proofs.front_length.Goals as goal

pub returns-then-starts_with : goal.returns-then-starts_with
returns-then-starts_with c = the_first (does_begin _ _ c.starts_with.ensures.value c.if-starts_with.true)

pub returns-then-starts_with-2 : goal.returns-then-starts_with-2
returns-then-starts_with-2 c =
    the_second (does_not_begin _ _ c.starts_with.ensures.value c.if-starts_with.false)
    (does_begin _ _ c.starts_with-else-starts_with.ensures.value c.if-starts_with-2.true)

pub returns-else-starts_with-2 : goal.returns-else-starts_with-2
returns-else-starts_with-2 c =
    neither (does_not_begin _ _ c.starts_with.ensures.value c.if-starts_with.false)
    (does_not_begin _ _ c.starts_with-else-starts_with.ensures.value c.if-starts_with-2.false)
