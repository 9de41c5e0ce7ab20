-- The vector of a column has the length that its exponent says: the two equations of its numerators follow from the
-- determinant of the column's products, which is zero. Read modulo two they say which numerators are odd together.
-- Assumes nothing.
use mathlib.Core.Path.{◌≡◌, refl, ap, ap₂, sym, ◌∙◌}
use mathlib.Core.Bool.{Bool, true, false, ◌&&◌, true≢false, false≢true}
use mathlib.Core.List.{[], ◌∷◌}
use Prim.Native.Nat.{ℕ, suc, ◌+◌, ◌*◌, ◌^◌}
use native.Mathlib.Nat.{pow-suc}
use native.Mathlib.Omega.{arith}
use lib.IntN.{nat_abs, ℤ, pos, ◌+ℤ◌, ◌*ℤ◌, neg_ℤ}
use Rattle.algebra.proofs.Whole.{whole}
use Rattle.algebra.proofs.Solver.{Expr, var, con, ◌⊕◌, ◌⊗◌, ⊖◌, value, combine, given, done}
use Rattle.algebra.specs.Parity.{odd}
use Rattle.algebra.proofs.Parity.{differ, odd_equation}
use Rattle.algebra.proofs.Cancellation.{double_cancel, square_size}
use Rattle.ring.specs.declared.Element.{Element}
use Rattle.ring.specs.Element.{element, omega2, sum, product, multiple, turned, conjugate}
use Rattle.ring.proofs.Formal.{◌+ᶠ◌, ◌*ᶠ◌, realᶠ, parts_of, coefficientwise}
use Rattle.ring.proofs.Ring.{elements, whole_element}
use Rattle.ring.proofs.Root2.{root2_power_cancel, root2_power_plus, two_power}
use Rattle.matrix.proofs.Small.{square}
use Rattle.ring.specs.declared.Vector.{Vector}
use Rattle.complete.specs.declared.Rest.{Rest}
use Rattle.ring.specs.Real.{real}
use Rattle.complete.specs.Vector.{Bloch, Led}
use Rattle.complete.proofs.Turn.{omega2_squared}

-- the determinant: x² + y² + z² = n², once the scale is cancelled
scaled_norm : {u t scale n x y z : Element} → Bloch u t scale n x y z →
    product scale (product scale (sum (sum (product x x) (product y y)) (product z z))) ≡ product scale (product scale (product n n))
scaled_norm {u} {t} {scale} {n} {x} {y} {z} b =
    combine elements (u ∷ conjugate u ∷ t ∷ conjugate t ∷ scale ∷ n ∷ x ∷ y ∷ z ∷ omega2 ∷ [])
    (given (con (pos 2) ⊗ (var 2 ⊗ var 3)) (con (pos 2) ⊗ (var 0 ⊗ var 1)) (var 4 ⊗ (var 5 ⊕ var 8)) b.top
    (given (var 4 ⊗ (var 5 ⊕ var 8)) (con (pos 2) ⊗ (var 2 ⊗ var 3)) (var 4 ⊗ (var 5 ⊕ ⊖ var 8)) b.bottom
    (given (⊖ (con (pos 2) ⊗ (var 2 ⊗ var 1))) (con (pos 2) ⊗ (var 0 ⊗ var 3)) (var 4 ⊗ (var 6 ⊕ ⊖ (var 9 ⊗ var 7))) b.above
    (given (⊖ (var 4 ⊗ (var 6 ⊕ ⊖ (var 9 ⊗ var 7)))) (con (pos 2) ⊗ (var 2 ⊗ var 1)) (var 4 ⊗ (var 6 ⊕ var 9 ⊗ var 7)) b.below
    (given (var 4 ⊗ var 4 ⊗ var 7 ⊗ var 7) (var 9 ⊗ var 9) (⊖ con (pos 1)) omega2_squared done)))))
    (var 4 ⊗ (var 4 ⊗ (var 6 ⊗ var 6 ⊕ var 7 ⊗ var 7 ⊕ var 8 ⊗ var 8))) (var 4 ⊗ (var 4 ⊗ (var 5 ⊗ var 5))) tt

pub squares_of_led : (r : Rest) (d n : ℕ) → Led r d n →
    sum (sum (product (real r.vector.x) (real r.vector.x)) (product (real r.vector.y) (real r.vector.y))) (product (real r.vector.z) (real r.vector.z))
    ≡ whole_element (pos (2 ^ n))
squares_of_led r d n b =
    root2_power_cancel d _ _ (root2_power_cancel d _ _ (scaled_norm b)) ∙ sym (root2_power_plus n n) ∙ sym (two_power n)

-- the squares added up, by their whole part and their √2 part
abbrev whole_partᶠ : Expr
whole_partᶠ = var 0 ⊗ var 0 ⊕ var 2 ⊗ var 2 ⊕ var 4 ⊗ var 4 ⊕ con (pos 2) ⊗ (var 1 ⊗ var 1 ⊕ var 3 ⊗ var 3 ⊕ var 5 ⊗ var 5)

abbrev root2_partᶠ : Expr
root2_partᶠ = var 0 ⊗ var 1 ⊕ var 2 ⊗ var 3 ⊕ var 4 ⊗ var 5

squares : (v : Vector) →
    sum (sum (product (real v.x) (real v.x)) (product (real v.y) (real v.y))) (product (real v.z) (real v.z))
    ≡ element (value whole (parts_of v) whole_partᶠ) (value whole (parts_of v) (root2_partᶠ ⊕ root2_partᶠ)) (pos 0) (neg_ℤ (value whole (parts_of v) (root2_partᶠ ⊕ root2_partᶠ)))
unfolding sum product multiple turned real
squares v =
    coefficientwise (parts_of v)
    ((realᶠ (var 0) (var 1) *ᶠ realᶠ (var 0) (var 1) +ᶠ realᶠ (var 2) (var 3) *ᶠ realᶠ (var 2) (var 3)) +ᶠ realᶠ (var 4) (var 5) *ᶠ realᶠ (var 4) (var 5))
    (realᶠ whole_partᶠ (root2_partᶠ ⊕ root2_partᶠ)) (tt, tt, tt, tt)

-- the numerators a + b√2, c + d√2, e + f√2 of a vector over (√2)^n: a² + c² + e² + 2(b² + d² + f²) = 2^n, ab + cd + ef = 0
pub record Norm (v : Vector) (n : ℕ) : Type 0 where
  pub whole_squares :
      v.x.whole *ℤ v.x.whole +ℤ v.y.whole *ℤ v.y.whole +ℤ v.z.whole *ℤ v.z.whole
      +ℤ pos 2 *ℤ (v.x.root2 *ℤ v.x.root2 +ℤ v.y.root2 *ℤ v.y.root2 +ℤ v.z.root2 *ℤ v.z.root2)
      ≡ pos (2 ^ n)
  pub no_root2 : v.x.whole *ℤ v.x.root2 +ℤ v.y.whole *ℤ v.y.root2 +ℤ v.z.whole *ℤ v.z.root2 ≡ pos 0

pub norm_of_led : (r : Rest) (d n : ℕ) → Led r d n → Norm r.vector n
norm_of_led r d n b =
    let e = sym (squares r.vector) ∙ squares_of_led r d n b in
    record {
      whole_squares = ap (λ (z : Element). z.a0) e;
      no_root2 = double_cancel (value whole (parts_of r.vector) root2_partᶠ) (pos 0) (ap (λ (z : Element). z.a1) e);
    }

-- the first of the two, between natural numbers
pub norm_squares : {v : Vector} {n : ℕ} → Norm v n →
    square v.x.whole + square v.y.whole + square v.z.whole + 2 * (square v.x.root2 + square v.y.root2 + square v.z.root2) ≡ 2 ^ n
norm_squares {v} l =
    ap nat_abs
    (sym (ap₂ ◌+ℤ◌ (ap₂ ◌+ℤ◌ (ap₂ ◌+ℤ◌ (square_size v.x.whole) (square_size v.y.whole)) (square_size v.z.whole))
    (ap (λ (n : ℤ). pos 2 *ℤ n) (ap₂ ◌+ℤ◌ (ap₂ ◌+ℤ◌ (square_size v.x.root2) (square_size v.y.root2)) (square_size v.z.root2))))
    ∙ l.whole_squares)

-- ---- modulo two, above exponent 0
-- an even number of the three whole parts is odd
pub odd_pairs : {v : Vector} {n : ℕ} → Norm v (suc n) → differ (odd v.x.whole) (differ (odd v.y.whole) (odd v.z.whole)) ≡ false
odd_pairs {v} {n} l =
    bits_of (odd v.x.whole) (odd v.y.whole) (odd v.z.whole)
    (odd_equation (v.x.whole ∷ v.x.root2 ∷ v.y.whole ∷ v.y.root2 ∷ v.z.whole ∷ v.z.root2 ∷ pos (2 ^ n) ∷ [])
    whole_partᶠ (con (pos 2) ⊗ var 6) (l.whole_squares ∙ ap pos (omega (arith, pow-suc 2 n))))
  where
    bits_of : (p q r : Bool) → differ (differ (differ (p && p) (q && q)) (r && r)) false ≡ false → differ p (differ q r) ≡ false
    bits_of false false false e = refl
    bits_of false false true e = e
    bits_of false true false e = e
    bits_of false true true e = refl
    bits_of true false false e = e
    bits_of true false true e = refl
    bits_of true true false e = refl
    bits_of true true true e = e

-- where x and y are odd and z is not, so are their √2 parts together
pub odd_together : {v : Vector} {n : ℕ} → Norm v n → odd v.x.whole ≡ true → odd v.y.whole ≡ true → odd v.z.whole ≡ false →
    odd v.x.root2 ≡ odd v.y.root2
odd_together {v} l x y z =
    bits_of (odd v.x.whole) (odd v.x.root2) (odd v.y.whole) (odd v.y.root2) (odd v.z.whole) (odd v.z.root2) x y z
    (odd_equation (parts_of v) root2_partᶠ (con (pos 0)) l.no_root2)
  where
    bits_of : (a b c d e f : Bool) → a ≡ true → c ≡ true → e ≡ false → differ (differ (a && b) (c && d)) (e && f) ≡ false → b ≡ d
    bits_of true false true false false f x y z h = refl
    bits_of true false true true false f x y z h = sym h
    bits_of true true true false false f x y z h = h
    bits_of true true true true false f x y z h = refl
    bits_of false b c d e f x y z h = absurd (false≢true x)
    bits_of true b false d e f x y z h = absurd (false≢true y)
    bits_of true b true d true f x y z h = absurd (true≢false z)
