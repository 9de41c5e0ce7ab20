-- `frame::number` meets its contract. The loop's invariant: `n` is the number of the digits before the loop's place. Assumes
-- nothing.
use Rattle.std.proofs.Common.{◌≡◌, ◌^◌, ◌<◌, take}
use Rattle.frame.specs.Parts.{number_of}
use Rattle.frame.proofs.number.Given as goal

abbrev pub invariant-loop-b : goal.invariant-loop-b
invariant-loop-b l = record { value : l.n ≡ number_of (take l.b-index l.text); below : l.n < 16 ^ l.b-index }
