-- The vector's exponent falls by one: where all three whole parts are even, by dividing the numerators by √2; where x and y
-- are odd and z is even, by taking T off the left. Exact halves make each step one identity. Assumes nothing.
use mathlib.Core.Path.{◌≡◌, refl, ap, ap₂, ◌∙◌}
use mathlib.Core.Bool.{Bool, false}
use mathlib.Core.List.{List, [], ◌∷◌}
use Prim.Native.Nat.{ℕ, suc}
use lib.IntN.{ℤ, pos, ◌+ℤ◌, ◌-ℤ◌, neg_ℤ}
use Rattle.algebra.proofs.Whole.{whole}
use Rattle.algebra.proofs.Solver.{var, con, ◌⊕◌, ◌⊗◌, ⊖◌, solve, combine, given, done}
use Rattle.algebra.specs.Parity.{odd, half}
use Rattle.algebra.proofs.Parity.{differ, differ_same, even_half, odd_plus, odd_negate}
use Rattle.algebra.proofs.Cancellation.{double_cancel}
use Rattle.ring.specs.declared.Element.{Element}
use Rattle.ring.specs.Element.{element, one, omega as ω, omega2, root2, sum, product, multiple, turned, negation, conjugate, root2_power}
use Rattle.ring.proofs.Formal.{◌+ᶠ◌, -ᶠ◌, ◌*ᶠ◌, root2ᶠ, realᶠ, coefficientwise}
use Rattle.ring.proofs.Ring.{elements}
use Rattle.matrix.specs.Matrix.{times}
use Rattle.matrix.specs.Letter.{gate_T}
use Rattle.matrix.proofs.Unitary.{Isometry}
use Rattle.ring.specs.Number.{Number}
use Rattle.complete.specs.declared.Rest.{Rest}
use Rattle.ring.specs.Real.{real, over_root2, half_sum, half_difference}
use Rattle.complete.specs.Vector.{Bloch, Led}
use Rattle.complete.specs.Descent.{turned_back, without_T, lowered, record_without_T, vector_without_T, vector_lowered}
use Rattle.complete.proofs.Turn.{omega_unit, omega2_squared, back_product, conjugate_back, phase_restored, phase_isometry, phase_bloch}

-- a number with an even whole part is √2 times another
pub real_over_root2 : (r : Number) → odd r.whole ≡ false → real r ≡ product root2 (real (over_root2 r))
unfolding real over_root2 product sum multiple turned root2
real_over_root2 r even =
    ap (λ (w : ℤ). element w r.root2 (pos 0) (neg_ℤ r.root2)) (even_half r.whole even)
    ∙ coefficientwise (half r.whole ∷ r.root2 ∷ []) (realᶠ (var 0 ⊕ var 0) (var 1)) (root2ᶠ *ᶠ realᶠ (var 1) (var 0)) (tt, tt, tt, tt)

-- ---- two numbers of one parity are the difference and the sum of two halves
even_sum : (a c : ℤ) → odd a ≡ odd c → a +ℤ c ≡ half (a +ℤ c) +ℤ half (a +ℤ c)
even_sum a c e = even_half (a +ℤ c) (odd_plus a c ∙ ap (λ (p : Bool). differ p (odd c)) e ∙ differ_same (odd c))

even_difference : (a c : ℤ) → odd a ≡ odd c → c -ℤ a ≡ half (c -ℤ a) +ℤ half (c -ℤ a)
even_difference a c e =
    even_half (c -ℤ a) (odd_plus c (neg_ℤ a) ∙ ap (differ (odd c)) (odd_negate a ∙ e) ∙ differ_same (odd c))

by_difference : (a c : ℤ) → odd a ≡ odd c → a ≡ half (a +ℤ c) -ℤ half (c -ℤ a)
by_difference a c e =
    double_cancel a (half (a +ℤ c) -ℤ half (c -ℤ a))
    (combine whole (a ∷ c ∷ half (a +ℤ c) ∷ half (c -ℤ a) ∷ [])
    (given (con (pos 1)) (var 0 ⊕ var 1) (var 2 ⊕ var 2) (even_sum a c e)
    (given (⊖ con (pos 1)) (var 1 ⊕ ⊖ var 0) (var 3 ⊕ var 3) (even_difference a c e) done))
    (var 0 ⊕ var 0) ((var 2 ⊕ ⊖ var 3) ⊕ (var 2 ⊕ ⊖ var 3)) tt)

by_sum : (a c : ℤ) → odd a ≡ odd c → c ≡ half (a +ℤ c) +ℤ half (c -ℤ a)
by_sum a c e =
    double_cancel c (half (a +ℤ c) +ℤ half (c -ℤ a))
    (combine whole (a ∷ c ∷ half (a +ℤ c) ∷ half (c -ℤ a) ∷ [])
    (given (con (pos 1)) (var 0 ⊕ var 1) (var 2 ⊕ var 2) (even_sum a c e)
    (given (con (pos 1)) (var 1 ⊕ ⊖ var 0) (var 3 ⊕ var 3) (even_difference a c e) done))
    (var 1 ⊕ var 1) ((var 2 ⊕ var 3) ⊕ (var 2 ⊕ var 3)) tt)

real_by_difference : (r s : Number) → odd r.whole ≡ odd s.whole → odd r.root2 ≡ odd s.root2 →
    real r ≡ sum (real (half_sum r s)) (negation (real (half_difference s r)))
unfolding real half_sum half_difference sum negation
real_by_difference r s whole_parts root2_parts =
    ap₂ (λ (a b : ℤ). element a b (pos 0) (neg_ℤ b)) (by_difference r.whole s.whole whole_parts) (by_difference r.root2 s.root2 root2_parts)
    ∙ coefficientwise
    (half (r.whole +ℤ s.whole) ∷ half (r.root2 +ℤ s.root2) ∷ half (s.whole -ℤ r.whole) ∷ half (s.root2 -ℤ r.root2) ∷ [])
    (realᶠ (var 0 ⊕ ⊖ var 2) (var 1 ⊕ ⊖ var 3)) (realᶠ (var 0) (var 1) +ᶠ (-ᶠ realᶠ (var 2) (var 3))) (tt, tt, tt, tt)

real_by_sum : (r s : Number) → odd r.whole ≡ odd s.whole → odd r.root2 ≡ odd s.root2 →
    real s ≡ sum (real (half_sum r s)) (real (half_difference s r))
unfolding real half_sum half_difference sum
real_by_sum r s whole_parts root2_parts =
    ap₂ (λ (a b : ℤ). element a b (pos 0) (neg_ℤ b)) (by_sum r.whole s.whole whole_parts) (by_sum r.root2 s.root2 root2_parts)
    ∙ coefficientwise
    (half (r.whole +ℤ s.whole) ∷ half (r.root2 +ℤ s.root2) ∷ half (s.whole -ℤ r.whole) ∷ half (s.root2 -ℤ r.root2) ∷ [])
    (realᶠ (var 0 ⊕ var 2) (var 1 ⊕ var 3)) (realᶠ (var 0) (var 1) +ᶠ realᶠ (var 2) (var 3)) (tt, tt, tt, tt)

-- ---- nothing taken off
lower_bloch : {u t scale n x y z x' y' z' : Element} → Bloch u t scale (product root2 n) x y z →
    x ≡ product root2 x' → y ≡ product root2 y' → z ≡ product root2 z' → Bloch u t (product root2 scale) n x' y' z'
lower_bloch {u} {t} {scale} {n} {x} {y} {z} {x'} {y'} {z'} b ex ey ez = record {
  top = b.top ∙ ap (λ (a : Element). product scale (sum (product root2 n) a)) ez
      ∙ solve elements values (var 0 ⊗ (var 1 ⊗ var 2 ⊕ var 1 ⊗ var 5)) ((var 1 ⊗ var 0) ⊗ (var 2 ⊕ var 5)) tt;
  above = b.above ∙ ap₂ (λ (a c : Element). product scale (sum a (negation (product omega2 c)))) ex ey
      ∙ solve elements values (var 0 ⊗ (var 1 ⊗ var 3 ⊕ ⊖ (var 6 ⊗ (var 1 ⊗ var 4)))) ((var 1 ⊗ var 0) ⊗ (var 3 ⊕ ⊖ (var 6 ⊗ var 4))) tt;
  below = b.below ∙ ap₂ (λ (a c : Element). product scale (sum a (product omega2 c))) ex ey
      ∙ solve elements values (var 0 ⊗ (var 1 ⊗ var 3 ⊕ var 6 ⊗ (var 1 ⊗ var 4))) ((var 1 ⊗ var 0) ⊗ (var 3 ⊕ var 6 ⊗ var 4)) tt;
  bottom = b.bottom ∙ ap (λ (a : Element). product scale (sum (product root2 n) (negation a))) ez
      ∙ solve elements values (var 0 ⊗ (var 1 ⊗ var 2 ⊕ ⊖ (var 1 ⊗ var 5))) ((var 1 ⊗ var 0) ⊗ (var 2 ⊕ ⊖ var 5)) tt;
}
  where
    values : List Element
    values = scale ∷ root2 ∷ n ∷ x' ∷ y' ∷ z' ∷ omega2 ∷ []

pub lowered_led : (r : Rest) (d n : ℕ) → Led r d (suc n) →
    odd r.vector.x.whole ≡ false → odd r.vector.y.whole ≡ false → odd r.vector.z.whole ≡ false → Led (lowered r) (suc d) n
unfolding vector_lowered root2_power
lowered_led r d n b x y z =
    lower_bloch b (real_over_root2 r.vector.x x) (real_over_root2 r.vector.y y) (real_over_root2 r.vector.z z)

-- ---- T taken off
pub T_restored : (r : Rest) → times gate_T (without_T r).matrix ≡ r.matrix
unfolding gate_T record_without_T
T_restored r = phase_restored (conjugate ω) ω omega_unit turned_back back_product conjugate_back r.matrix

pub T_isometry : (r : Rest) → Isometry r.matrix → Isometry (without_T r).matrix
unfolding record_without_T
T_isometry r i = phase_isometry (conjugate ω) ω omega_unit turned_back back_product conjugate_back {m = r.matrix} i

-- ω⁻¹(1 + i) = √2 = ω(1 − i)
root2_back : product (conjugate ω) (sum one omega2) ≡ root2
unfolding product sum multiple turned ω omega2 conjugate one root2
root2_back = refl

root2_forth : product ω (sum one (negation omega2)) ≡ root2
unfolding product sum multiple turned ω omega2 negation one root2
root2_forth = refl

T_bloch : {u t scale n x y z p q z' : Element} → Bloch u t scale (product root2 n) x y z →
    x ≡ sum p (negation q) → y ≡ sum p q → z ≡ product root2 z' → Bloch u (turned_back t) (product root2 scale) n p q z'
T_bloch {u} {t} {scale} {n} {x} {y} {z} {p} {q} {z'} b ex ey ez =
    phase_bloch (conjugate ω) ω omega_unit turned_back back_product conjugate_back b
    (ap (λ (a : Element). product scale (sum (product root2 n) a)) ez
    ∙ solve elements values (var 0 ⊗ (var 1 ⊗ var 2 ⊕ var 1 ⊗ var 5)) ((var 1 ⊗ var 0) ⊗ (var 2 ⊕ var 5)) tt)
    (ap (λ (a : Element). product scale (sum (product root2 n) (negation a))) ez
    ∙ solve elements values (var 0 ⊗ (var 1 ⊗ var 2 ⊕ ⊖ (var 1 ⊗ var 5))) ((var 1 ⊗ var 0) ⊗ (var 2 ⊕ ⊖ var 5)) tt)
    (ap₂ (λ (a c : Element). product (conjugate ω) (product scale (sum a (product omega2 c)))) ex ey
    ∙ combine elements values
    (given (var 0 ⊗ (var 3 ⊕ var 6 ⊗ var 4)) (var 7 ⊗ (con (pos 1) ⊕ var 6)) (var 1) root2_back
    (given (⊖ (var 7 ⊗ var 0 ⊗ var 4)) (var 6 ⊗ var 6) (⊖ con (pos 1)) omega2_squared done))
    (var 7 ⊗ (var 0 ⊗ (var 3 ⊕ ⊖ var 4 ⊕ var 6 ⊗ (var 3 ⊕ var 4)))) ((var 1 ⊗ var 0) ⊗ (var 3 ⊕ var 6 ⊗ var 4)) tt)
    (ap₂ (λ (a c : Element). product ω (product scale (sum a (negation (product omega2 c))))) ex ey
    ∙ combine elements values
    (given (var 0 ⊗ (var 3 ⊕ ⊖ (var 6 ⊗ var 4))) (var 8 ⊗ (con (pos 1) ⊕ ⊖ var 6)) (var 1) root2_forth
    (given (⊖ (var 8 ⊗ var 0 ⊗ var 4)) (var 6 ⊗ var 6) (⊖ con (pos 1)) omega2_squared done))
    (var 8 ⊗ (var 0 ⊗ (var 3 ⊕ ⊖ var 4 ⊕ ⊖ (var 6 ⊗ (var 3 ⊕ var 4))))) ((var 1 ⊗ var 0) ⊗ (var 3 ⊕ ⊖ (var 6 ⊗ var 4))) tt)
  where
    values : List Element
    values = scale ∷ root2 ∷ n ∷ p ∷ q ∷ z' ∷ omega2 ∷ conjugate ω ∷ ω ∷ []

pub T_led : (r : Rest) (d n : ℕ) → Led r d (suc n) →
    odd r.vector.x.whole ≡ odd r.vector.y.whole → odd r.vector.x.root2 ≡ odd r.vector.y.root2 → odd r.vector.z.whole ≡ false →
    Led (without_T r) (suc d) n
unfolding record_without_T vector_without_T root2_power
T_led r d n b whole_parts root2_parts z =
    T_bloch b (real_by_difference r.vector.x r.vector.y whole_parts root2_parts)
    (real_by_sum r.vector.x r.vector.y whole_parts root2_parts) (real_over_root2 r.vector.z z)
