-- `accepted_to_form::Descent::put_axis` meets its contract: what is left after each letter has room. Assumes nothing.
use Rattle.std.proofs.Common.{◌≡◌, rules}
use Rattle.complete.specs.Descent.{off_y, off_x}
use Rattle.accepted_to_form.proofs.Descends.{roomy, roomy_off_y, roomy_off_x}
use Rattle.accepted_to_form.proofs.Descent.put_axis.Goals as goal

pub take-off_y-requires-clause-past : goal.take-off_y-requires-clause-past
take-off_y-requires-clause-past c = roomy c.requires.descends

pub take-off_x-requires-clause-past : goal.take-off_x-requires-clause-past
take-off_x-requires-clause-past c =
    let first : c.take-off_y.result ≡ off_y c.args.rest = search rules in
    rw first (roomy_off_y c.requires.descends)

pub take-requires-clause-past : goal.take-requires-clause-past
take-requires-clause-past c =
    let first : c.take-off_y.result ≡ off_y c.args.rest = search rules in
    let second : c.take-off_x.result ≡ off_x c.take-off_y.result = search rules in
    rw (second, first) (roomy_off_x c.requires.descends)
