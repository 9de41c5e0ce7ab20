-- Where there is room, nothing is written; else all is.
use Rattle.std.proofs.Common.{arith}
use Rattle.std.proofs.lemmas.Result.{on_ok_weaker}
use Rattle.lines.specs.Line.{Room}
use Rattle.lines.proofs.Lines.make_room.Goals as goal

pub returns-then-room-remaining_capacity-clause-made : goal.returns-then-room-remaining_capacity-clause-made
returns-then-room-remaining_capacity-clause-made g c = Room.there (omega arith)

pub returns-clause-made : goal.returns-clause-made
returns-clause-made g c = on_ok_weaker c.write_out.result (λ e. rw e (Room.made (omega arith))) c.write_out.ensures.written
