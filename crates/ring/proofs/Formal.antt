-- Elements whose coefficients are expressions, with the operations of the definitions: an identity between elements is
-- four identities between whole numbers, which the solver computes. Assumes nothing.
use mathlib.Core.Path.{◌≡◌}
use mathlib.Core.List.{List, [], ◌∷◌}
use lib.IntN.{ℤ, pos, negsuc}
use lib.Dec.{T as Holds}
use Rattle.algebra.proofs.Whole.{whole}
use Rattle.algebra.proofs.Solver.{Expr, var, con, ◌⊕◌, ◌⊗◌, ⊖◌, value, same, solve}
use Rattle.ring.specs.declared.Element.{Element}
use Rattle.ring.specs.declared.Vector.{Vector}
use Rattle.ring.specs.Element.{element}

-- an element whose coefficients are expressions
pub record Formal : Type 0 where
  pub c0 : Expr
  pub c1 : Expr
  pub c2 : Expr
  pub c3 : Expr

abbrev pub formal : Expr → Expr → Expr → Expr → Formal
formal a b c d = record { c0 = a; c1 = b; c2 = c; c3 = d }

-- the operations on such elements, as the definitions have them on elements
infixl 6 ◌+ᶠ◌
infixl 7 ◌*ᶠ◌
infix 8 -ᶠ◌
abbrev pub ◌+ᶠ◌ : Formal → Formal → Formal
x +ᶠ y = formal (x.c0 ⊕ y.c0) (x.c1 ⊕ y.c1) (x.c2 ⊕ y.c2) (x.c3 ⊕ y.c3)

abbrev pub -ᶠ◌ : Formal → Formal
-ᶠ◌ x = formal (⊖ x.c0) (⊖ x.c1) (⊖ x.c2) (⊖ x.c3)

abbrev pub multipleᶠ : Expr → Formal → Formal
multipleᶠ n x = formal (n ⊗ x.c0) (n ⊗ x.c1) (n ⊗ x.c2) (n ⊗ x.c3)

abbrev pub turnedᶠ : Formal → Formal
turnedᶠ x = formal (⊖ x.c3) x.c0 x.c1 x.c2

abbrev pub ◌*ᶠ◌ : Formal → Formal → Formal
x *ᶠ y =
    (multipleᶠ x.c0 y +ᶠ multipleᶠ x.c1 (turnedᶠ y))
    +ᶠ (multipleᶠ x.c2 (turnedᶠ (turnedᶠ y)) +ᶠ multipleᶠ x.c3 (turnedᶠ (turnedᶠ (turnedᶠ y))))

abbrev pub conjugateᶠ : Formal → Formal
conjugateᶠ x = formal x.c0 (⊖ x.c3) (⊖ x.c2) (⊖ x.c1)

-- a number of Z[√2] whose parts are expressions
abbrev pub realᶠ : Expr → Expr → Formal
realᶠ a b = formal a b (con (pos 0)) (⊖ b)

-- the parts of a vector's numbers
abbrev pub parts_of : Vector → List ℤ
parts_of v = v.x.whole ∷ v.x.root2 ∷ v.y.whole ∷ v.y.root2 ∷ v.z.whole ∷ v.z.root2 ∷ []

-- a whole number as an element, √2, and three elements that stand for any
abbrev pub wholeᶠ : Expr → Formal
wholeᶠ n = formal n (con (pos 0)) (con (pos 0)) (con (pos 0))

abbrev pub root2ᶠ : Formal
root2ᶠ = formal (con (pos 0)) (con (pos 1)) (con (pos 0)) (con (negsuc 0))

abbrev pub xᶠ : Formal
xᶠ = formal (var 0) (var 1) (var 2) (var 3)

abbrev pub yᶠ : Formal
yᶠ = formal (var 4) (var 5) (var 6) (var 7)

abbrev pub zᶠ : Formal
zᶠ = formal (var 8) (var 9) (var 10) (var 11)

-- the coefficients of up to three elements
abbrev pub coefficients : List Element → List ℤ
coefficients [] = []
coefficients (x ∷ xs) = x.a0 ∷ x.a1 ∷ x.a2 ∷ x.a3 ∷ coefficients xs

-- the element that a formal one stands for
abbrev pub meant : List ℤ → Formal → Element
meant values f =
    element (value whole values f.c0) (value whole values f.c1) (value whole values f.c2) (value whole values f.c3)

-- the solver's test at each coefficient
abbrev pub Alike : Formal → Formal → Type 0
Alike f g = Holds (same f.c0 g.c0) × Holds (same f.c1 g.c1) × Holds (same f.c2 g.c2) × Holds (same f.c3 g.c3)

-- formal elements that pass the test stand for equal elements
pub coefficientwise : (values : List ℤ) (f g : Formal) → Alike f g → meant values f ≡ meant values g
coefficientwise values f g alike = λ i.
    element
    (solve whole values f.c0 g.c0 alike.0 i) (solve whole values f.c1 g.c1 alike.1 i)
    (solve whole values f.c2 g.c2 alike.2 i) (solve whole values f.c3 g.c3 alike.3 i)
