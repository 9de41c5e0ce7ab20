-- A record as an exponent and sixteen coefficients.
use Rattle.std.specs.Prelude.{ℕ, ◌+◌, List, [], ◌∷◌, ℤ, pos, get_or}
use Rattle.ring.specs.declared.Element.{Element}
use Rattle.ring.specs.Element.{element}
use Rattle.matrix.specs.declared.Matrix.{Matrix}
use Rattle.matrix.specs.Matrix.{matrix}

-- the sixteen coefficients, "index 0 to 15": top left, top right, bottom left, bottom right, each a0, a1, a2, a3
unfoldable pub coefficients : Matrix → List ℤ
coefficients m =
    m.top.left.a0 ∷ m.top.left.a1 ∷ m.top.left.a2 ∷ m.top.left.a3
    ∷ m.top.right.a0 ∷ m.top.right.a1 ∷ m.top.right.a2 ∷ m.top.right.a3
    ∷ m.bottom.left.a0 ∷ m.bottom.left.a1 ∷ m.bottom.left.a2 ∷ m.bottom.left.a3
    ∷ m.bottom.right.a0 ∷ m.bottom.right.a1 ∷ m.bottom.right.a2 ∷ m.bottom.right.a3
    ∷ []

-- the element whose coefficients stand from a place on
abbrev pub element_at : List ℤ → ℕ → Element
element_at list i =
    element (get_or list i (pos 0)) (get_or list (i + 1) (pos 0)) (get_or list (i + 2) (pos 0)) (get_or list (i + 3) (pos 0))

-- top left, top right, bottom left, bottom right
unfoldable pub record_of : ℕ → List ℤ → Matrix
record_of exponent list = matrix exponent (element_at list 0) (element_at list 4) (element_at list 8) (element_at list 12)
