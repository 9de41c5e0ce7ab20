-- What an input still has, and what taking of it and reading on make of that. What stands in the input that is read no
-- contract can say.
use Rattle.std.specs.Prelude.{ℕ, ◌+◌, ◌≡◌, Bool, true, false, List, [], drop}

-- the part of the block that is still to be taken, and where in the block it begins; `closed` is true once no more can come
pub record Rest : Type 0 where
  pub at : ℕ
  pub part : List ℕ
  pub closed : Bool

-- nothing is read yet
abbrev pub unread : Rest
unread = record { at = 0; part = []; closed = false }

-- so many bytes more of the part are taken
abbrev pub moved : Rest → ℕ → Rest
moved rest used = record { at = rest.at + used; part = drop used rest.part; closed = rest.closed }

-- the end of the input: nothing is left, and no more can come
abbrev pub over : Rest
over = record { at = 0; part = []; closed = true }

-- What reading on makes of an input: more of it, from the start of the block, unless no more could come; or its end.
pub data ReadsOn (before : Rest) : Bool → Rest → Type 0 where
  more : before.closed ≡ false → (part : List ℕ) → ReadsOn before true (record { at = 0; part = part; closed = false })
  ended : ReadsOn before false over
