-- Numbers of Z[√2], of any size.
use Rattle.std.specs.Prelude.{ℤ, ◌^◌}
use Rattle.ring.specs.Bounds.{Bounded}

-- whole + root2·√2
pub record Number : Type 0 where
  pub whole : ℤ
  pub root2 : ℤ

-- a number whose parts leave room in the machine's 64 bits: a sum of two and a change of sign stay exact
pub record RoomyNumber (r : Number) : Type 0 where
  pub whole : Bounded (2 ^ 61) r.whole
  pub root2 : Bounded (2 ^ 61) r.root2
