-- `accepted_to_form::Descent::put_syllable` meets its contract: what is left after each letter has room. Assumes nothing.
use Rattle.std.proofs.Common.{◌≡◌, rules}
use Rattle.complete.specs.Descent.{past_S, past_H}
use Rattle.accepted_to_form.proofs.Descends.{roomy, roomy_past_S, roomy_past_H}
use Rattle.accepted_to_form.proofs.Descent.put_syllable.Goals as goal

pub take-past_s-requires-clause-past : goal.take-past_s-requires-clause-past
take-past_s-requires-clause-past c = roomy c.requires.above_zero.descends

pub take-past_h-requires-clause-past : goal.take-past_h-requires-clause-past
take-past_h-requires-clause-past c =
    let first : c.take-past_s.result ≡ past_S c.args.rest = search rules in
    rw first (roomy_past_S c.requires.above_zero.descends)

pub take-requires-clause-past : goal.take-requires-clause-past
take-requires-clause-past c =
    let first : c.take-past_s.result ≡ past_S c.args.rest = search rules in
    let second : c.take-past_h.result ≡ past_H c.take-past_s.result = search rules in
    rw (second, first) (roomy_past_H c.requires.above_zero.descends)
