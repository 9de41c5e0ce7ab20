-- `string_to_matrix::prefixed` meets its contract: a roomy record leaves room for H. Assumes nothing.
use native.Mathlib.Nat.{le_trans}
use lib.Dec.{lit≤}
use Rattle.turn.proofs.Room.{roomy_record}
use Rattle.string_to_matrix.proofs.prefixed.Goals as goal

pub record_without_h-requires : goal.record_without_h-requires
record_without_h-requires c = let roomy = c.args.roomy.roomy in roomy_record roomy.unitary (le_trans roomy.low (lit≤ tt))
