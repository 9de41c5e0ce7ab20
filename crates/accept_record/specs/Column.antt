-- Document 01, "Numbers and matrices": the equations of one column, and the product of the two, of the eight for unitary.
use Rattle.std.specs.Prelude.{◌≡◌, ℤ, pos, ◌+ℤ◌}
use Rattle.ring.specs.declared.Element.{Element}
use Rattle.ring.specs.Element.{size_whole, size_root2}

-- "each column's squared sizes sum to 2^k with no √2 part"
pub record UnitColumn (top bottom : Element) (power : ℤ) : Type 0 where
  pub whole : size_whole top +ℤ size_whole bottom ≡ power
  pub root2 : size_root2 top +ℤ size_root2 bottom ≡ pos 0
