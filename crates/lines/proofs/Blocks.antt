-- What reading a block makes of an input: more of it, or its end where nothing is read. Assumes nothing.
use Prim.Native.Nat.{ℕ}
use mathlib.Core.Bool.{Bool, true, false, not}
use mathlib.Core.List.{List}
use mathlib.Core.Path.{◌≡◌}
use borrow.Author.Tests.{eqb-true}
use Rattle.std.specs.Prelude.{nat_eq, slice_range}
use Rattle.lines.specs.Rest.{Rest, ReadsOn}

pub block_read :
    (before : Rest) (block : List ℕ) (n : ℕ) (empty : Bool) → nat_eq n 0 ≡ empty → before.closed ≡ false →
    ReadsOn before (not empty) (record { at = 0; part = slice_range block 0 n; closed = empty })
block_read before block n true nothing unclosed = rw (eqb-true n 0 nothing) ReadsOn.ended
block_read before block n false nothing unclosed = ReadsOn.more unclosed _
