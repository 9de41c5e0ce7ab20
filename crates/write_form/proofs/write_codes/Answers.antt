-- `write_form::write_codes` meets its contract: there is room for one code more. Assumes nothing.
use Prim.Native.Nat.{◌+◌}
use native.Mathlib.Omega.{arith}
use mathlib.Core.List.{reverse}
use lib.ListN.{length, get_or, take}
use Rattle.form.specs.Tail.{head_text}
use Rattle.extend_form.specs.Spelling.{codes_text}
use Rattle.place.proofs.Written.{wrote_nothing, wrote_more, room_after}
use Rattle.write_form.proofs.Codes.{text_more, next_fits}
use Rattle.write_form.proofs.write_codes.Goals as goal

pub loop-code-init : goal.loop-code-init
unfolding codes_text
loop-code-init c = wrote_nothing _ (omega (arith, c.requires))

pub write_code-requires : goal.write_code-requires
write_code-requires c =
    let codes = c.args.codes.now in
    let i = c.loop-code.code-index in
    room_after (length (codes_text (reverse (take i codes)))) (length (head_text (get_or codes i 0)) + 1) (omega arith)
    (omega (arith, c.requires, next_fits codes i c.loop-code-test.true)) c.loop-code.invariant

pub loop-code-preserved : goal.loop-code-preserved
loop-code-preserved c =
    rw (text_more c.args.codes.now c.loop-code.code-index c.loop-code-test.true)
    (wrote_more c.loop-code.invariant c.write_code.ensures)
