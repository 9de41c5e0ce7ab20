-- Document 01, "Numbers and matrices": the ring elements and what is done with them.
use Rattle.std.specs.Prelude.{ℤ, pos, negsuc, ◌+ℤ◌, ◌-ℤ◌, ◌*ℤ◌, neg_ℤ, ℕ, zero, suc}
use Rattle.ring.specs.declared.Element.{Element}

-- "A ring element is four whole numbers (a0, a1, a2, a3), meaning a0 + a1ω + a2ω² + a3ω³."
abbrev pub element : ℤ → ℤ → ℤ → ℤ → Element
element a0 a1 a2 a3 = record { a0 = a0; a1 = a1; a2 = a2; a3 = a3 }

-- zero
unfoldable pub nothing : Element
nothing = element (pos 0) (pos 0) (pos 0) (pos 0)

-- "The fixed elements one, ω, ω² and √2": √2 = ω − ω³.
unfoldable pub one : Element
one = element (pos 1) (pos 0) (pos 0) (pos 0)

unfoldable pub omega : Element
omega = element (pos 0) (pos 1) (pos 0) (pos 0)

unfoldable pub omega2 : Element
omega2 = element (pos 0) (pos 0) (pos 1) (pos 0)

unfoldable pub root2 : Element
root2 = element (pos 0) (pos 1) (pos 0) (negsuc 0)

-- the sum, place by place
unfoldable pub sum : Element → Element → Element
sum x y = element (x.a0 +ℤ y.a0) (x.a1 +ℤ y.a1) (x.a2 +ℤ y.a2) (x.a3 +ℤ y.a3)

unfoldable pub negation : Element → Element
negation x = element (neg_ℤ x.a0) (neg_ℤ x.a1) (neg_ℤ x.a2) (neg_ℤ x.a3)

-- a whole number times an element
unfoldable pub multiple : ℤ → Element → Element
multiple n x = element (n *ℤ x.a0) (n *ℤ x.a1) (n *ℤ x.a2) (n *ℤ x.a3)

-- ω times an element: "ω⁴ = −1", so a3 comes back at a0 with its sign changed
unfoldable pub turned : Element → Element
turned x = element (neg_ℤ x.a3) x.a0 x.a1 x.a2

-- (a0 + a1ω + a2ω² + a3ω³) · y
unfoldable pub product : Element → Element → Element
product x y =
    sum
    (sum (multiple x.a0 y) (multiple x.a1 (turned y)))
    (sum (multiple x.a2 (turned (turned y))) (multiple x.a3 (turned (turned (turned y)))))

-- the complex conjugate: ω becomes ω⁻¹ = −ω³
unfoldable pub conjugate : Element → Element
conjugate x = element x.a0 (neg_ℤ x.a3) (neg_ℤ x.a2) (neg_ℤ x.a1)

-- "The squared size of an element is a0²+a1²+a2²+a3² + √2·(a0a1 + a1a2 + a2a3 − a3a0)": its whole part and its √2 part
unfoldable pub size_whole : Element → ℤ
size_whole x = x.a0 *ℤ x.a0 +ℤ x.a1 *ℤ x.a1 +ℤ x.a2 *ℤ x.a2 +ℤ x.a3 *ℤ x.a3

unfoldable pub size_root2 : Element → ℤ
size_root2 x = x.a0 *ℤ x.a1 +ℤ x.a1 *ℤ x.a2 +ℤ x.a2 *ℤ x.a3 -ℤ x.a3 *ℤ x.a0

-- (√2)^k
unfoldable pub root2_power : ℕ → Element
root2_power zero = one
root2_power (suc k) = product root2 (root2_power k)
