-- `string_to_matrix::by_diagonal` meets its contract: a diagonal matrix multiplies row by row, and a roomy record leaves room for it.
-- Assumes nothing.
use Rattle.ring.proofs.Bounds.{fixed_factor}
use Rattle.string_to_matrix.proofs.Small.{roomy_is_small}
use Rattle.string_to_matrix.proofs.Gates.{diagonal_times}
use Rattle.string_to_matrix.proofs.by_diagonal.Goals as goal

pub times-requires : goal.times-requires
times-requires c = fixed_factor c.requires.small (roomy_is_small c.args.roomy.roomy).top_left

pub times-requires-2 : goal.times-requires-2
times-requires-2 c = fixed_factor c.requires.small (roomy_is_small c.args.roomy.roomy).top_right

pub times-requires-3 : goal.times-requires-3
times-requires-3 c = fixed_factor c.requires.small_2 (roomy_is_small c.args.roomy.roomy).bottom_left

pub times-requires-4 : goal.times-requires-4
times-requires-4 c = fixed_factor c.requires.small_2 (roomy_is_small c.args.roomy.roomy).bottom_right

pub returns : goal.returns
returns c =
    diagonal_times c.args.u c.args.w c.args.roomy.matrix c.times.ensures c.times-2.ensures c.times-3.ensures c.times-4.ensures
