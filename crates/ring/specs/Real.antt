-- Numbers of Z[√2] and vectors of three, which are over a power of √2: the Bloch vector of a record's first column, and what a
-- rotation matrix makes of an axis.
use Rattle.std.specs.Prelude.{ℤ, pos, ◌+ℤ◌, ◌-ℤ◌, neg_ℤ}
use Rattle.algebra.specs.Parity.{half}
use Rattle.ring.specs.declared.Element.{Element}
use Rattle.ring.specs.Number.{Number}
use Rattle.ring.specs.declared.Vector.{Vector}
use Rattle.ring.specs.Element.{element}

-- whole + root2·√2
abbrev pub number : ℤ → ℤ → Number
number w r = record { whole = w; root2 = r }

-- that number as a ring element: √2 = ω − ω³
unfoldable pub real : Number → Element
real r = element r.whole r.root2 (pos 0) (neg_ℤ r.root2)

-- three numbers, along the axes
abbrev pub vector : Number → Number → Number → Vector
vector x y z = record { x = x; y = y; z = z }

-- a number with its sign changed
unfoldable pub negated : Number → Number
negated r = number (neg_ℤ r.whole) (neg_ℤ r.root2)

-- a number whose whole part is even, divided by √2
unfoldable pub over_root2 : Number → Number
over_root2 r = number r.root2 (half r.whole)

-- half of a sum, where it is a number of Z[√2]
unfoldable pub half_sum : Number → Number → Number
half_sum r s = number (half (r.whole +ℤ s.whole)) (half (r.root2 +ℤ s.root2))

-- half of a difference, where it is a number of Z[√2]
unfoldable pub half_difference : Number → Number → Number
half_difference r s = number (half (r.whole -ℤ s.whole)) (half (r.root2 -ℤ s.root2))
