-- Equality in meaning of two matrices as a quick test, with no product of elements, and that the test is sound.
-- Assumes nothing.
use mathlib.Core.Path.{◌≡◌, ap, sym, ◌∙◌}
use mathlib.Core.Bool.{Bool, true, false, ◌&&◌}
use Prim.Native.Nat.{ℕ, zero, suc}
use lib.Dec.{eqb, eqb→eq, T as Holds}
use lib.IntN.{ℤ, pos, negsuc, ◌+ℤ◌, ◌-ℤ◌}
use Rattle.ring.specs.declared.Element.{Element}
use Rattle.ring.specs.Element.{element, one, root2, product, root2_power}
use Rattle.ring.proofs.Ring.{product_assoc, product_comm, product_one}
use Rattle.ring.proofs.Root2.{root2_times}
use Rattle.matrix.specs.declared.Matrix.{Matrix}
use Rattle.matrix.specs.Matrix.{Same, EqualOver}

-- a test of two tests
pub both : (a b : Bool) → Holds (a && b) → Holds a × Holds b
both true b h = (tt, h)
both false b h = (absurd h, absurd h)

unfoldable pub whole_test : ℤ → ℤ → Bool
whole_test (pos m) (pos n) = eqb m n
whole_test (pos m) (negsuc n) = false
whole_test (negsuc m) (pos n) = false
whole_test (negsuc m) (negsuc n) = eqb m n

whole_equal : (x y : ℤ) → Holds (whole_test x y) → x ≡ y
unfolding whole_test
whole_equal (pos m) (pos n) h = ap pos (eqb→eq m n h)
whole_equal (pos m) (negsuc n) h = absurd h
whole_equal (negsuc m) (pos n) h = absurd h
whole_equal (negsuc m) (negsuc n) h = ap negsuc (eqb→eq m n h)

unfoldable pub element_test : Element → Element → Bool
element_test x y =
    whole_test x.a0 y.a0 && (whole_test x.a1 y.a1 && (whole_test x.a2 y.a2 && whole_test x.a3 y.a3))

element_equal : (x y : Element) → Holds (element_test x y) → x ≡ y
unfolding element_test
element_equal x y h =
    let first = both (whole_test x.a0 y.a0) _ h in
    let second = both (whole_test x.a1 y.a1) _ first.1 in
    let third = both (whole_test x.a2 y.a2) _ second.1 in
    λ i.
    element (whole_equal x.a0 y.a0 first.0 i) (whole_equal x.a1 y.a1 second.0 i)
    (whole_equal x.a2 y.a2 third.0 i) (whole_equal x.a3 y.a3 third.1 i)

-- (√2)^k times an element, with no product
unfoldable pub raised : ℕ → Element → Element
raised zero x = x
raised (suc k) x =
    let y = raised k x in element (y.a1 -ℤ y.a3) (y.a0 +ℤ y.a2) (y.a1 +ℤ y.a3) (y.a2 -ℤ y.a0)

raised_is_product : (k : ℕ) (x : Element) → raised k x ≡ product (root2_power k) x
unfolding raised root2_power
raised_is_product zero x = sym (product_comm one x ∙ product_one x)
raised_is_product (suc k) x =
    sym (root2_times (raised k x))
    ∙ ap (product root2) (raised_is_product k x)
    ∙ sym (product_assoc root2 (root2_power k) x)

unfoldable pub over_test : ℕ → ℕ → Element → Element → Bool
over_test k l x y = element_test (raised l x) (raised k y)

over_equal : (k l : ℕ) (x y : Element) → Holds (over_test k l x y) → EqualOver k l x y
unfolding over_test EqualOver
over_equal k l x y h = sym (raised_is_product l x) ∙ element_equal (raised l x) (raised k y) h ∙ raised_is_product k y

-- two matrices are equal in meaning
unfoldable pub same_test : Matrix → Matrix → Bool
same_test m n =
    over_test m.exponent n.exponent m.top.left n.top.left
    && (over_test m.exponent n.exponent m.top.right n.top.right
    && (over_test m.exponent n.exponent m.bottom.left n.bottom.left
    && over_test m.exponent n.exponent m.bottom.right n.bottom.right))

pub same_by_test : (m n : Matrix) → Holds (same_test m n) → Same m n
unfolding same_test
same_by_test m n h =
    let k = m.exponent in
    let l = n.exponent in
    let first = both (over_test k l m.top.left n.top.left) _ h in
    let second = both (over_test k l m.top.right n.top.right) _ first.1 in
    let third = both (over_test k l m.bottom.left n.bottom.left) _ second.1 in
    record {
      top_left = over_equal k l m.top.left n.top.left first.0;
      top_right = over_equal k l m.top.right n.top.right second.0;
      bottom_left = over_equal k l m.bottom.left n.bottom.left third.0;
      bottom_right = over_equal k l m.bottom.right n.bottom.right third.1;
    }
