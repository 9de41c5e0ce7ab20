-- What is left of the part after so many bytes of it.
use Rattle.std.proofs.Common.{◌≤◌, length, slice_range}
use Rattle.lines.proofs.Kept.{range_without}
use Rattle.lines.proofs.Input.take.Goals as goal

pub returns : goal.returns
returns g c =
    let i = c.self.inside in
    let within : c.args.used ≤ length (slice_range i.block i.at i.end) = rw (← c.self.view_is) at c.requires in
    rw (← c.self.view_is) (rw (range_without i.block i.at i.end c.args.used within))
