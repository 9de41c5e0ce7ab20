-- √2: its square is two, it cancels and is real, and so do and are its powers; (√2)^(2k) is 2^k. Assumes nothing.
use mathlib.Core.Path.{◌≡◌, refl, ap, ap₂, sym, ◌∙◌}
use mathlib.Core.List.{[], ◌∷◌}
use Prim.Native.Nat.{ℕ, zero, suc, ◌+◌, ◌^◌}
use native.Mathlib.Nat.{zero-add, suc-add, add-suc, pow-suc}
use lib.IntN.{pos, ◌+ℤ◌, ◌-ℤ◌}
use Rattle.algebra.proofs.Solver.{var, ◌⊕◌, ◌⊗◌, ⊖◌, solve}
use Rattle.algebra.proofs.Cancellation.{double_cancel}
use Rattle.ring.specs.declared.Element.{Element}
use Rattle.ring.specs.Element.{element, one, root2, sum, multiple, turned, product, conjugate, root2_power}
use Rattle.ring.proofs.Formal.{formal, ◌+ᶠ◌, ◌*ᶠ◌, root2ᶠ, xᶠ, coefficients, coefficientwise}
use Rattle.ring.proofs.Ring.{elements, whole_element, whole_product, product_assoc, product_comm, product_one, whole_is_one, conjugate_product, conjugate_one}

-- "√2·√2 = 2"
pub root2_squared : product root2 root2 ≡ whole_element (pos 2)
unfolding product sum multiple turned root2
root2_squared = refl

-- √2 times an element, coefficient by coefficient
pub root2_times : (x : Element) → product root2 x ≡ element (x.a1 -ℤ x.a3) (x.a0 +ℤ x.a2) (x.a1 +ℤ x.a3) (x.a2 -ℤ x.a0)
unfolding product sum multiple turned root2
root2_times x =
    coefficientwise (coefficients (x ∷ [])) (root2ᶠ *ᶠ xᶠ)
    (formal (var 1 ⊕ ⊖ var 3) (var 0 ⊕ var 2) (var 1 ⊕ var 3) (var 2 ⊕ ⊖ var 0))
    (tt, tt, tt, tt)

-- √2 twice is the element added to itself
pub root2_twice : (x : Element) → product root2 (product root2 x) ≡ sum x x
unfolding product sum multiple turned root2
root2_twice x = coefficientwise (coefficients (x ∷ [])) (root2ᶠ *ᶠ (root2ᶠ *ᶠ xᶠ)) (xᶠ +ᶠ xᶠ) (tt, tt, tt, tt)

-- an element is known by its double
sum_cancel : (x y : Element) → sum x x ≡ sum y y → x ≡ y
unfolding sum
sum_cancel x y e = λ i.
    element
    (double_cancel x.a0 y.a0 (ap (λ (z : Element). z.a0) e) i) (double_cancel x.a1 y.a1 (ap (λ (z : Element). z.a1) e) i)
    (double_cancel x.a2 y.a2 (ap (λ (z : Element). z.a2) e) i) (double_cancel x.a3 y.a3 (ap (λ (z : Element). z.a3) e) i)

-- √2 cancels
pub root2_cancel : (x y : Element) → product root2 x ≡ product root2 y → x ≡ y
root2_cancel x y e = sum_cancel x y (sym (root2_twice x) ∙ ap (product root2) e ∙ root2_twice y)

-- a power of √2 cancels
pub root2_power_cancel : (k : ℕ) (x y : Element) → product (root2_power k) x ≡ product (root2_power k) y → x ≡ y
unfolding root2_power
root2_power_cancel zero x y e = sym (one_product x) ∙ e ∙ one_product y
  where
    one_product : (z : Element) → product one z ≡ z
    one_product z = product_comm one z ∙ product_one z
root2_power_cancel (suc k) x y e =
    root2_power_cancel k x y
    (root2_cancel (product (root2_power k) x) (product (root2_power k) y)
    (sym (product_assoc root2 (root2_power k) x) ∙ e ∙ product_assoc root2 (root2_power k) y))

-- the exponents of a product of powers add
pub root2_power_plus : (m n : ℕ) → root2_power (m + n) ≡ product (root2_power m) (root2_power n)
unfolding root2_power
root2_power_plus zero n = ap root2_power (zero-add n) ∙ sym (product_comm one (root2_power n) ∙ product_one (root2_power n))
root2_power_plus (suc m) n =
    ap root2_power (suc-add m n) ∙ ap (product root2) (root2_power_plus m n)
    ∙ sym (product_assoc root2 (root2_power m) (root2_power n))

-- √2 is real, and so are its powers
pub conjugate_root2 : conjugate root2 ≡ root2
unfolding conjugate root2
conjugate_root2 = refl

pub conjugate_root2_power : (k : ℕ) → conjugate (root2_power k) ≡ root2_power k
unfolding root2_power
conjugate_root2_power zero = conjugate_one
conjugate_root2_power (suc k) = conjugate_product root2 (root2_power k) ∙ ap₂ product conjugate_root2 (conjugate_root2_power k)

-- (√2)^(2k) is 2^k
pub two_power : (k : ℕ) → whole_element (pos (2 ^ k)) ≡ root2_power (k + k)
unfolding root2_power
two_power zero = whole_is_one
two_power (suc k) =
    ap (λ (n : ℕ). whole_element (pos n)) (pow-suc 2 k) ∙ whole_product (pos (2 ^ k)) (pos 2)
    ∙ ap₂ product (two_power k) (sym root2_squared)
    ∙ solve elements (root2_power (k + k) ∷ root2 ∷ []) (var 0 ⊗ (var 1 ⊗ var 1)) (var 1 ⊗ (var 1 ⊗ var 0)) tt
    ∙ sym (ap root2_power (suc-add k (suc k) ∙ ap suc (add-suc k k)))
