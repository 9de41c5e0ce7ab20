-- SPEC, "Rotation": vectors over Z[√2], the matrix of one, and what a letter and a text make of it.
use Rattle.std.specs.Prelude.{ℕ, cond, List, [], ◌∷◌, eqb, pos, ◌+ℤ◌, ◌-ℤ◌}
use Rattle.ring.specs.Element.{omega2, sum, negation, product}
use Rattle.matrix.specs.declared.Matrix.{Matrix}
use Rattle.matrix.specs.Matrix.{matrix}
use Rattle.matrix.specs.Letter.{H, S, T, X, Y, Z}
use Rattle.ring.specs.Number.{Number}
use Rattle.ring.specs.declared.Vector.{Vector}
use Rattle.ring.specs.Real.{number, real, negated, vector}
use Rattle.rotation.specs.Rotation.{Axis, axis_X, axis_Y, axis_Z}

-- ---- numbers
-- the sum
unfoldable pub added : Number → Number → Number
added r s = number (r.whole +ℤ s.whole) (r.root2 +ℤ s.root2)

-- the difference
unfoldable pub subtracted : Number → Number → Number
subtracted r s = number (r.whole -ℤ s.whole) (r.root2 -ℤ s.root2)

-- √2·(a + b√2) = 2b + a√2
unfoldable pub by_root2 : Number → Number
by_root2 r = number (r.root2 +ℤ r.root2) r.whole

-- ---- vectors
-- the number along an axis
unfoldable pub at : Vector → Axis → Number
at v axis_X = v.x
at v axis_Y = v.y
at v axis_Z = v.z

-- one along an axis
unfoldable pub unit : Axis → Vector
unit axis_X = vector (number (pos 1) (pos 0)) (number (pos 0) (pos 0)) (number (pos 0) (pos 0))
unit axis_Y = vector (number (pos 0) (pos 0)) (number (pos 1) (pos 0)) (number (pos 0) (pos 0))
unit axis_Z = vector (number (pos 0) (pos 0)) (number (pos 0) (pos 0)) (number (pos 1) (pos 0))

-- the matrix of a vector: xX + yY + zZ over (√2)^t
unfoldable pub along : ℕ → Vector → Matrix
along t v =
    matrix t (real v.z) (sum (real v.x) (negation (product omega2 (real v.y))))
    (sum (real v.x) (product omega2 (real v.y))) (negation (real v.z))

-- what a letter makes of a vector; for T over one more √2
unfoldable pub rotated : ℕ → Vector → Vector
rotated b v =
    cond (eqb b H) (vector v.z (negated v.y) v.x)
    (cond (eqb b S) (vector (negated v.y) v.x v.z)
    (cond (eqb b T) (vector (subtracted v.x v.y) (added v.x v.y) (by_root2 v.z))
    (cond (eqb b X) (vector v.x (negated v.y) (negated v.z))
    (cond (eqb b Y) (vector (negated v.x) v.y (negated v.z))
    (cond (eqb b Z) (vector (negated v.x) (negated v.y) v.z)
    v)))))

-- what a text makes of a vector, over as many √2 as the text has T's
unfoldable pub text_rotated : List ℕ → Vector → Vector
text_rotated [] v = v
text_rotated (b ∷ w) v = rotated b (text_rotated w v)
