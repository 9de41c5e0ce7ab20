-- `turn::record_without_s` meets its contract: what is left without a T leaves room to take off another. Assumes nothing.
use Rattle.turn.proofs.Room.{roomy_without_T}
use Rattle.turn.proofs.record_without_s.Goals as goal

pub record_without_t-requires-2 : goal.record_without_t-requires-2
record_without_t-requires-2 c = roomy_without_T c.record_without_t.ensures c.requires
