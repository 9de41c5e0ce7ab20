-- What a string's matrix is worked out with: how many T's the form of a record within the exponent limit may hold, the
-- records whose coefficients leave room in 64 bits, and the steps down to the least record.
use Rattle.std.specs.Prelude.{ℕ, suc, ◌+◌, ◌*◌, ◌<◌, ◌≤◌, Bool, true, false, ◌≡◌}
use Rattle.ring.specs.Divided.{Root2Divides}
use Rattle.matrix.specs.declared.Matrix.{Matrix}
use Rattle.matrix.specs.Matrix.{Same, Least, Unitary}
use Rattle.answer.specs.Limits.{exponent_limit}

-- "A matrix's form has T-count at most 2k + 1, so at most 81."
abbrev pub t_limit : ℕ
t_limit = 2 * exponent_limit + 1

-- a form with so many T's has one H more at most
abbrev pub h_limit : ℕ
h_limit = t_limit + 1

-- a unitary record with the exponent that so many H's give: its coefficients are then small
pub record Roomy (m : Matrix) : Type 0 where
  pub unitary : Unitary m
  pub low : m.exponent ≤ h_limit

-- √2 divides every element of a record, whose exponent can fall
pub record Reducible (m : Matrix) : Type 0 where
  pub above_zero : 0 < m.exponent
  pub top_left : Root2Divides m.top.left
  pub top_right : Root2Divides m.top.right
  pub bottom_left : Root2Divides m.bottom.left
  pub bottom_right : Root2Divides m.bottom.right

-- what a test for a smaller exponent finds: it can fall, or the record is least
abbrev pub Reduces : Matrix → Bool → Type 0
Reduces m true = Reducible m
Reduces m false = Least m

-- the record r means what m means, with an exponent lower by one
pub record Lowered (m r : Matrix) : Type 0 where
  pub same : Same m r
  pub lower : m.exponent ≡ suc r.exponent
