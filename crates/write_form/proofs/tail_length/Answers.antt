-- `write_form::tail_length` meets its contract: a tail's fields are the lengths of its parts. Assumes nothing.
use native.Mathlib.Omega.{arith}
use Rattle.form.specs.Tail.{tail_h}
use Rattle.form.proofs.Count.{length_tail}
use Rattle.write_form.proofs.Codes.{head_length}
use Rattle.write_form.proofs.tail_length.Goals as goal

pub returns : goal.returns
returns c =
    let n = c.args.tail.number in
    let in_tails = c.args.tail.in_tails in
    omega (arith, length_tail n, head_length (tail_h n) (omega arith), c.head.ensures, c.xs.ensures, c.ss.ensures, c.ws.ensures)
