-- `string_to_matrix::lowered` meets its contract: a roomy record leaves room to divide by √2. Assumes nothing.
use Rattle.string_to_matrix.proofs.Small.{roomy_is_small}
use Rattle.string_to_matrix.proofs.Reduced.{lowered_by, roomy_lowered}
use Rattle.string_to_matrix.proofs.lowered.Goals as goal

pub over_root2-requires-clause-small : goal.over_root2-requires-clause-small
over_root2-requires-clause-small c = (roomy_is_small c.args.roomy.roomy).top_left

pub over_root2-requires-2-clause-small : goal.over_root2-requires-2-clause-small
over_root2-requires-2-clause-small c = (roomy_is_small c.args.roomy.roomy).top_right

pub over_root2-requires-3-clause-small : goal.over_root2-requires-3-clause-small
over_root2-requires-3-clause-small c = (roomy_is_small c.args.roomy.roomy).bottom_left

pub over_root2-requires-4-clause-small : goal.over_root2-requires-4-clause-small
over_root2-requires-4-clause-small c = (roomy_is_small c.args.roomy.roomy).bottom_right

pub invariant_of-result : goal.invariant_of-result
invariant_of-result c =
    let falls = lowered_by c.requires c.over_root2.ensures c.over_root2-2.ensures c.over_root2-3.ensures c.over_root2-4.ensures in
    record { roomy = roomy_lowered c.args.roomy.roomy falls }

pub returns : goal.returns
returns c = lowered_by c.requires c.over_root2.ensures c.over_root2-2.ensures c.over_root2-3.ensures c.over_root2-4.ensures
