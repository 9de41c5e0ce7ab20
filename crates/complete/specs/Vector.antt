-- The Bloch vector of a record's first column (document 01, "Numbers and matrices": 003 leads its proof by such vectors):
-- three numbers of Z[√2] over a power of √2, and what they have to do with the record.
use Rattle.std.specs.Prelude.{ℕ, ◌≡◌, pos, ◌+ℤ◌, ◌-ℤ◌}
use Rattle.ring.specs.declared.Element.{Element}
use Rattle.ring.specs.Element.{element, omega2, sum, negation, product, conjugate, size_whole, size_root2, root2_power}
use Rattle.ring.specs.Real.{number, real, vector}
use Rattle.matrix.specs.declared.Matrix.{Matrix}
use Rattle.matrix.specs.Matrix.{Unitary}
use Rattle.ring.specs.declared.Vector.{Vector}
use Rattle.complete.specs.declared.Rest.{Rest}

-- the ring element two
abbrev pub two : Element
two = element (pos 2) (pos 0) (pos 0) (pos 0)

-- The vector (x, y, z) over n is that of a column (u, t): twice (u, t)·(u, t)† is a scale times [[n + z, x − iy], [x + iy, n − z]].
pub record Bloch (u t scale n x y z : Element) : Type 0 where
  pub top : product two (product u (conjugate u)) ≡ product scale (sum n z)
  pub above : product two (product u (conjugate t)) ≡ product scale (sum x (negation (product omega2 y)))
  pub below : product two (product t (conjugate u)) ≡ product scale (sum x (product omega2 y))
  pub bottom : product two (product t (conjugate t)) ≡ product scale (sum n (negation z))

-- the vector of a rest over (√2)^n is that of its record's first column
abbrev pub Led : Rest → ℕ → ℕ → Type 0
Led r d n =
    Bloch r.matrix.top.left r.matrix.bottom.left (root2_power d) (root2_power n)
    (real r.vector.x) (real r.vector.y) (real r.vector.z)

-- a unitary record with the vector of its first column over (√2)^n
pub record Guided (r : Rest) (n : ℕ) : Type 0 where
  pub unitary : Unitary r.matrix
  pub scale : ℕ
  pub led : Led r scale n

-- the vector of a record's first column over (√2)^(2k): x + iy = 2·t·conj(u), z = |u|² − |t|²
unfoldable pub vector_of : Matrix → Vector
vector_of m =
    let u = m.top.left in
    let t = m.bottom.left in
    let p = product t (conjugate u) in
    vector (number (p.a0 +ℤ p.a0) (p.a1 -ℤ p.a3)) (number (p.a2 +ℤ p.a2) (p.a1 +ℤ p.a3))
    (number (size_whole u -ℤ size_whole t) (size_root2 u -ℤ size_root2 t))
