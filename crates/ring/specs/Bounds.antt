-- Bounds on whole numbers and on the coefficients of elements, for what must fit a machine integer.
use Rattle.std.specs.Prelude.{ℕ, ◌*◌, ◌^◌, ◌≤◌, ℤ, nat_abs}
use Rattle.ring.specs.declared.Element.{Element}

-- a whole number from −bound to bound
pub record Bounded (bound : ℕ) (z : ℤ) : Type 0 where
  pub size : nat_abs z ≤ bound

-- an element whose coefficients are
pub record Small (bound : ℕ) (x : Element) : Type 0 where
  pub a0 : Bounded bound x.a0
  pub a1 : Bounded bound x.a1
  pub a2 : Bounded bound x.a2
  pub a3 : Bounded bound x.a3

-- two bounds whose product leaves room for a sum of four such products below 2^63
pub record Room (left right : ℕ) : Type 0 where
  pub left_room : left ≤ 2 ^ 61
  pub right_room : right ≤ 2 ^ 61
  pub room : left * right ≤ 2 ^ 60

-- a number and an element small enough to be multiplied
pub record Multiplied (n : ℤ) (y : Element) : Type 0 where
  pub left : ℕ
  pub right : ℕ
  pub small_left : Bounded left n
  pub small_right : Small right y
  pub room : Room left right

-- two elements small enough to be multiplied
pub record Factors (x y : Element) : Type 0 where
  pub left : ℕ
  pub right : ℕ
  pub small_left : Small left x
  pub small_right : Small right y
  pub room : Room left right
