-- `write_form::write_code` meets its contract: a head, and T after it. Assumes nothing.
use native.Mathlib.Omega.{arith}
use lib.ListN.{length}
use Rattle.form.specs.Tail.{head_text}
use Rattle.place.proofs.Written.{wrote_more, room_after}
use Rattle.write_form.proofs.write_code.Goals as goal

pub put-requires : goal.put-requires
put-requires c = room_after (length (head_text c.args.code)) 1 (omega arith) c.requires c.write_head.ensures

pub returns : goal.returns
returns c = wrote_more c.write_head.ensures c.put.ensures
