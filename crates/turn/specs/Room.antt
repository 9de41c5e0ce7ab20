-- Room in the machine's 64 bits: numbers of size up to 2^61, so that a sum of two and a change of sign stay exact.
use Rattle.std.specs.Prelude.{◌^◌, ◌<◌}
use Rattle.ring.specs.Bounds.{Small}
use Rattle.matrix.specs.declared.Matrix.{Matrix}

-- a record whose elements leave room
pub record RoomyRecord (m : Matrix) : Type 0 where
  pub exponent : m.exponent < 2 ^ 31
  pub top_left : Small (2 ^ 61) m.top.left
  pub top_right : Small (2 ^ 61) m.top.right
  pub bottom_left : Small (2 ^ 61) m.bottom.left
  pub bottom_right : Small (2 ^ 61) m.bottom.right
