-- The first line end of the part is found, or there is none, and what stands before it is held.
use Rattle.lines.proofs.Kept.{line_taken, part_taken}
use Rattle.lines.proofs.take_line.Goals as goal

pub returns-in_default : goal.returns-in_default
returns-in_default g c = part_taken c.args.part.now _ c.in_default.ensures c.hold.ensures

pub returns : goal.returns
returns g c = line_taken c.args.part.now _ c.in-Some.end c.in-Some.ensures c.hold-2.ensures
