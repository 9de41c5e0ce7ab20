-- An element is √2 times another exactly when a0 and a2 agree in parity, and a1 and a3: then the other is √2 times the
-- element, halved. Assumes nothing.
use mathlib.Core.Path.{◌≡◌, ap, sym, ◌∙◌}
use mathlib.Core.Bool.{Bool, false, Bool-discrete}
use lib.IntN.{ℤ, ◌+ℤ◌, ◌-ℤ◌, neg_ℤ, +ℤ_comm}
use Rattle.algebra.specs.Parity.{odd, half}
use Rattle.algebra.proofs.Parity.{differ, differ_same, even_half, odd_plus, odd_negate}
use Rattle.ring.specs.declared.Element.{Element}
use Rattle.ring.specs.Element.{element, root2, sum, product}
use Rattle.ring.specs.Divided.{Root2Divides}
use Rattle.ring.proofs.Root2.{root2_times, root2_twice, root2_cancel}

-- the element times √2, halved: the element divided by √2 where that goes
unfoldable pub over_root2 : Element → Element
over_root2 x = element (half (x.a1 -ℤ x.a3)) (half (x.a0 +ℤ x.a2)) (half (x.a1 +ℤ x.a3)) (half (x.a2 -ℤ x.a0))

-- the coefficients agree in pairs in parity
pub record EvenPairs (x : Element) : Type 0 where
  pub outer : odd x.a0 ≡ odd x.a2
  pub inner : odd x.a1 ≡ odd x.a3

-- two whole numbers of one parity have an even sum and an even difference
even_sum : (m n : ℤ) → odd m ≡ odd n → odd (m +ℤ n) ≡ false
even_sum m n e = odd_plus m n ∙ ap (λ (b : Bool). differ b (odd n)) e ∙ differ_same (odd n)

even_difference : (m n : ℤ) → odd m ≡ odd n → odd (m -ℤ n) ≡ false
even_difference m n e = even_sum m (neg_ℤ n) (e ∙ sym (odd_negate n))

halved_twice : (z : ℤ) → odd z ≡ false → half z +ℤ half z ≡ z
halved_twice z e = sym (even_half z e)

-- twice the quotient is √2 times the element
doubled : (x : Element) → EvenPairs x →
    sum (over_root2 x) (over_root2 x) ≡ element (x.a1 -ℤ x.a3) (x.a0 +ℤ x.a2) (x.a1 +ℤ x.a3) (x.a2 -ℤ x.a0)
unfolding over_root2 sum
doubled x e = λ i.
    element
    (halved_twice (x.a1 -ℤ x.a3) (even_difference x.a1 x.a3 e.inner) i)
    (halved_twice (x.a0 +ℤ x.a2) (even_sum x.a0 x.a2 e.outer) i)
    (halved_twice (x.a1 +ℤ x.a3) (even_sum x.a1 x.a3 e.inner) i)
    (halved_twice (x.a2 -ℤ x.a0) (even_difference x.a2 x.a0 (sym e.outer)) i)

-- what is divided by √2 and multiplied by it again is the element
pub divides : (x : Element) → EvenPairs x → product root2 (over_root2 x) ≡ x
divides x e = root2_cancel (product root2 (over_root2 x)) x (root2_twice (over_root2 x) ∙ doubled x e ∙ sym (root2_times x))

-- √2 times an element has even pairs
pub even_pairs : (x y : Element) → product root2 y ≡ x → EvenPairs x
even_pairs x y e = record {
  outer = ap odd (coefficient (λ (z : Element). z.a0)) ∙ signs y.a1 y.a3 ∙ sym (ap odd (coefficient (λ (z : Element). z.a2)));
  inner = ap odd (coefficient (λ (z : Element). z.a1)) ∙ signs' y.a0 y.a2 ∙ sym (ap odd (coefficient (λ (z : Element). z.a3)));
}
  where
    turned_root2 : Element
    turned_root2 = element (y.a1 -ℤ y.a3) (y.a0 +ℤ y.a2) (y.a1 +ℤ y.a3) (y.a2 -ℤ y.a0)

    coefficient : (part : Element → ℤ) → part x ≡ part turned_root2
    coefficient part = ap part (sym e ∙ root2_times y)

    signs : (m n : ℤ) → odd (m -ℤ n) ≡ odd (m +ℤ n)
    signs m n = odd_plus m (neg_ℤ n) ∙ ap (differ (odd m)) (odd_negate n) ∙ sym (odd_plus m n)

    signs' : (m n : ℤ) → odd (m +ℤ n) ≡ odd (n -ℤ m)
    signs' m n = ap odd (+ℤ_comm m n) ∙ sym (signs n m)

pub pairs_of_divided : {x : Element} → Root2Divides x → EvenPairs x
pairs_of_divided {x} d = even_pairs x d.quotient d.multiplied

pub divided_of_pairs : {x : Element} → EvenPairs x → Root2Divides x
divided_of_pairs {x} e = record { quotient = over_root2 x; multiplied = divides x e }

-- whether the pairs agree is decided
pub decide_pairs : (x : Element) → Dec (EvenPairs x)
decide_pairs x = by (Bool-discrete (odd x.a0) (odd x.a2)) (Bool-discrete (odd x.a1) (odd x.a3))
  where
    by : Dec (odd x.a0 ≡ odd x.a2) → Dec (odd x.a1 ≡ odd x.a3) → Dec (EvenPairs x)
    by (yes o) (yes i) = yes (record { outer = o; inner = i })
    by (yes o) (no i) = no (λ (e : EvenPairs x). i e.inner)
    by (no o) d = no (λ (e : EvenPairs x). o e.outer)
