-- `frame::write_number` meets its contract. The loop's invariant: what is written from the loop's place on ends the digits of
-- the number, and what is left of it has as many digits as are not yet written. Assumes nothing.
use Rattle.std.proofs.Common.{◌≡◌, ◌++◌, length, drop}
use Rattle.frame.specs.Digit.{digits}
use Rattle.frame.proofs.write_number.Given as goal

abbrev pub invariant-loop-i : goal.invariant-loop-i
invariant-loop-i l = record {
  long : length l.part ≡ length l.initial.part;
  left : digits (length l.initial.part) l.n ≡ digits l.i l.rest ++ drop l.i l.part;
}
