-- Nothing is read of a closed input, and of another a block.
use Rattle.std.proofs.Common.{refl}
use Rattle.lines.specs.Rest.{ReadsOn}
use Rattle.lines.proofs.Blocks.{block_read}
use Rattle.lines.proofs.Input.read.Goals as goal

pub returns-then-self : goal.returns-then-self
returns-then-self g c = rw c.if-self.true ReadsOn.ended

pub returns : goal.returns
returns g c = rw (← c.self.view_is) (block_read _ c.read.new.buf c.in_ok-self-inside.field-0 _ refl c.if-self.false)
