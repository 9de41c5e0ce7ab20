-- An element of squared size 2^k is (√2)^k times a power of ω, and the signs of its coefficients tell which power.
-- By induction over k: √2 divides it where k is above 0, and at k = 0 one coefficient is 1 or −1. Assumes nothing.
use mathlib.Core.Path.{◌≡◌, refl, ap, sym, ◌∙◌, subst}
use mathlib.Core.Bool.{Bool, true, false, cond, ◌&&◌}
use mathlib.Core.List.{[], ◌∷◌}
use mathlib.Core.Logic.{◌⊎◌, inl, inr, ⊎_elim}
use Prim.Native.Nat.{ℕ, zero, suc, ◌+◌, ◌*◌, ◌^◌, ◌<◌}
use native.Mathlib.Nat.{mul-suc, pow-suc, suc-add, add-suc}
use native.Mathlib.Omega.{arith}
use lib.IntN.{ℤ, pos, negsuc, ◌+ℤ◌, nat_abs}
use lib.Dec.{lit<, leb-zero, leb-suc-suc, eqb, eqb→eq, T as Holds}
use lib.Signed.{lt_z}
use Rattle.algebra.proofs.Solver.{var, con, ◌⊕◌, ◌⊗◌, ⊖◌, solve}
use Rattle.algebra.specs.Parity.{odd}
use Rattle.algebra.proofs.Parity.{differ, odd_equation}
use Rattle.algebra.proofs.Cancellation.{square_size, square_zero}
use Rattle.ring.specs.declared.Element.{Element}
use Rattle.ring.specs.Element.{element, one, omega as ω, root2, sum, product, multiple, turned, conjugate, size_whole, size_root2, root2_power}
use Rattle.ring.proofs.Formal.{◌*ᶠ◌, conjugateᶠ, realᶠ, xᶠ, coefficients, coefficientwise}
use Rattle.ring.proofs.Ring.{elements, conjugate_product, product_assoc}
use Rattle.ring.proofs.Root2.{root2_twice, root2_cancel, two_power, conjugate_root2}
use Rattle.ring.proofs.Divided.{over_root2 as divided, EvenPairs, divides}
use Rattle.matrix.proofs.Small.{square, size_is_squares}
use Rattle.form.proofs.Every.{every, every_at}
use Rattle.ring.specs.Real.{number, real}
use Rattle.complete.specs.Descent.{by_sign, phase}

-- an element times its conjugate is a number of Z[√2], its squared size
pub size_real : (x : Element) → product x (conjugate x) ≡ real (number (size_whole x) (size_root2 x))
unfolding product sum multiple turned conjugate size_whole size_root2 real
size_real x =
    coefficientwise (coefficients (x ∷ [])) (xᶠ *ᶠ conjugateᶠ xᶠ)
    (realᶠ (var 0 ⊗ var 0 ⊕ var 1 ⊗ var 1 ⊕ var 2 ⊗ var 2 ⊕ var 3 ⊗ var 3) (var 0 ⊗ var 1 ⊕ var 1 ⊗ var 2 ⊕ var 2 ⊗ var 3 ⊕ ⊖ (var 3 ⊗ var 0)))
    (tt, tt, tt, tt)

-- an element of squared size 2^k
pub record OfSize (k : ℕ) (u : Element) : Type 0 where
  pub size : product u (conjugate u) ≡ root2_power (k + k)

size_whole_of : {k : ℕ} {u : Element} → OfSize k u → size_whole u ≡ pos (2 ^ k)
unfolding real
size_whole_of {k} {u} s = ap (λ (x : Element). x.a0) (sym (size_real u) ∙ s.size ∙ sym (two_power k))

size_root2_of : {k : ℕ} {u : Element} → OfSize k u → size_root2 u ≡ pos 0
unfolding real
size_root2_of {k} {u} s = ap (λ (x : Element). x.a1) (sym (size_real u) ∙ s.size ∙ sym (two_power k))

-- ---- above k = 0, √2 divides
pairs : {k : ℕ} {u : Element} → OfSize (suc k) u → EvenPairs u
unfolding size_whole size_root2
pairs {k} {u} s =
    let agree =
    bits_of (odd u.a0) (odd u.a1) (odd u.a2) (odd u.a3)
    (odd_equation (u.a0 ∷ u.a1 ∷ u.a2 ∷ u.a3 ∷ pos (2 ^ k) ∷ [])
    (var 0 ⊗ var 0 ⊕ var 1 ⊗ var 1 ⊕ var 2 ⊗ var 2 ⊕ var 3 ⊗ var 3) (con (pos 2) ⊗ var 4)
    (size_whole_of s ∙ ap pos (omega (arith, pow-suc 2 k))))
    (odd_equation (u.a0 ∷ u.a1 ∷ u.a2 ∷ u.a3 ∷ [])
    (var 0 ⊗ var 1 ⊕ var 1 ⊗ var 2 ⊕ var 2 ⊗ var 3 ⊕ ⊖ (var 3 ⊗ var 0)) (con (pos 0)) (size_root2_of s)) in
    record { outer = agree.0; inner = agree.1 }
  where
    bits_of : (a b c d : Bool) →
        differ (differ (differ (a && a) (b && b)) (c && c)) (d && d) ≡ false →
        differ (differ (differ (a && b) (b && c)) (c && d)) (d && a) ≡ false → (a ≡ c) × (b ≡ d)
    bits_of false false false false e f = (refl, refl)
    bits_of false false false true e f = (refl, sym e)
    bits_of false false true false e f = (sym e, refl)
    bits_of false false true true e f = (sym f, sym f)
    bits_of false true false false e f = (refl, e)
    bits_of false true false true e f = (refl, refl)
    bits_of false true true false e f = (sym f, f)
    bits_of false true true true e f = (sym e, refl)
    bits_of true false false false e f = (e, refl)
    bits_of true false false true e f = (f, sym f)
    bits_of true false true false e f = (refl, refl)
    bits_of true false true true e f = (refl, sym e)
    bits_of true true false false e f = (f, f)
    bits_of true true false true e f = (e, refl)
    bits_of true true true false e f = (refl, e)
    bits_of true true true true e f = (refl, refl)

divided_size : {k : ℕ} {u : Element} → OfSize (suc k) u → OfSize k (divided u)
unfolding root2_power
divided_size {k} {u} s =
    let v = divided u in
    record {
      size =
          root2_cancel (product v (conjugate v)) (root2_power (k + k))
          (root2_cancel (product root2 (product v (conjugate v))) (product root2 (root2_power (k + k)))
          (solve elements (root2 ∷ v ∷ conjugate v ∷ []) (var 0 ⊗ (var 0 ⊗ (var 1 ⊗ var 2))) ((var 0 ⊗ var 1) ⊗ (var 0 ⊗ var 2)) tt
          ∙ ap (product (product root2 v)) (sym (conjugate_product root2 v ∙ ap (λ (x : Element). product x (conjugate v)) conjugate_root2))
          ∙ ap (λ (x : Element). product x (conjugate x)) (divides u (pairs s))
          ∙ s.size
          ∙ ap root2_power (suc-add k (suc k) ∙ ap suc (add-suc k k))));
    }

-- ---- powers of ω
unfoldable pub omega_power : ℕ → Element
omega_power zero = one
omega_power (suc j) = product ω (omega_power j)

-- an element is (√2)^k times the power of ω that is j
pub record IsPhase (k : ℕ) (u : Element) (j : ℕ) : Type 0 where
  pub below : j < 8
  pub is : u ≡ product (root2_power k) (omega_power j)

-- a number of size one is 1 or −1
sign_of : (a : ℤ) → nat_abs a * nat_abs a ≡ 1 → (a ≡ pos 1) ⊎ (a ≡ negsuc 0)
sign_of (pos zero) e = absurd (omega arith)
sign_of (pos (suc zero)) e = inl refl
sign_of (pos (suc (suc n))) e = absurd (omega (arith, mul-suc (suc (suc n)) (suc n)))
sign_of (negsuc zero) e = inr refl
sign_of (negsuc (suc n)) e = absurd (omega (arith, mul-suc (suc (suc n)) (suc n)))

-- of four numbers one is one, and the others are zero
abbrev OneOf : ℕ → ℕ → ℕ → ℕ → Type 0
OneOf m n p q =
    ((m ≡ 1) × (n ≡ 0) × (p ≡ 0) × (q ≡ 0)) ⊎ (((m ≡ 0) × (n ≡ 1) × (p ≡ 0) × (q ≡ 0))
    ⊎ (((m ≡ 0) × (n ≡ 0) × (p ≡ 1) × (q ≡ 0)) ⊎ ((m ≡ 0) × (n ≡ 0) × (p ≡ 0) × (q ≡ 1))))

which : (m n p q : ℕ) → m + n + p + q ≡ 1 → OneOf m n p q
which (suc m) n p q e = inl (omega arith)
which zero (suc n) p q e = inr (inl (omega arith))
which zero zero (suc p) q e = inr (inr (inl (omega arith)))
which zero zero zero q e = inr (inr (inr (omega arith)))

-- at k = 0 one coefficient is 1 or −1, and the others are zero
unit_phase_at_zero : (u : Element) → OfSize 0 u → (j : ℕ) × IsPhase 0 u j
unfolding size_whole omega_power root2_power product sum multiple turned ω one
unit_phase_at_zero u s = by (which (square u.a0) (square u.a1) (square u.a2) (square u.a3) total)
  where
    total : square u.a0 + square u.a1 + square u.a2 + square u.a3 ≡ 1
    total = ap nat_abs (sym (size_is_squares u) ∙ size_whole_of s)

    zero_of : (a : ℤ) → square a ≡ 0 → a ≡ pos 0
    zero_of a e = square_zero a (square_size a ∙ ap pos e)

    at : (j : ℕ) → j < 8 → {a b c d : ℤ} → u.a0 ≡ a → u.a1 ≡ b → u.a2 ≡ c → u.a3 ≡ d →
        element a b c d ≡ product (root2_power 0) (omega_power j) → (j : ℕ) × IsPhase 0 u j
    at j below ea eb ec ed e = (j, record { below = below; is = (λ i. element (ea i) (eb i) (ec i) (ed i)) ∙ e })

    by : OneOf (square u.a0) (square u.a1) (square u.a2) (square u.a3) → (j : ℕ) × IsPhase 0 u j
    by (inl (e0, e1, e2, e3)) =
        ⊎_elim (λ one_is. at 0 (lit< tt) one_is (zero_of u.a1 e1) (zero_of u.a2 e2) (zero_of u.a3 e3) refl)
        (λ one_is. at 4 (lit< tt) one_is (zero_of u.a1 e1) (zero_of u.a2 e2) (zero_of u.a3 e3) refl) (sign_of u.a0 e0)
    by (inr (inl (e0, e1, e2, e3))) =
        ⊎_elim (λ one_is. at 1 (lit< tt) (zero_of u.a0 e0) one_is (zero_of u.a2 e2) (zero_of u.a3 e3) refl)
        (λ one_is. at 5 (lit< tt) (zero_of u.a0 e0) one_is (zero_of u.a2 e2) (zero_of u.a3 e3) refl) (sign_of u.a1 e1)
    by (inr (inr (inl (e0, e1, e2, e3)))) =
        ⊎_elim (λ one_is. at 2 (lit< tt) (zero_of u.a0 e0) (zero_of u.a1 e1) one_is (zero_of u.a3 e3) refl)
        (λ one_is. at 6 (lit< tt) (zero_of u.a0 e0) (zero_of u.a1 e1) one_is (zero_of u.a3 e3) refl) (sign_of u.a2 e2)
    by (inr (inr (inr (e0, e1, e2, e3)))) =
        ⊎_elim (λ one_is. at 3 (lit< tt) (zero_of u.a0 e0) (zero_of u.a1 e1) (zero_of u.a2 e2) one_is refl)
        (λ one_is. at 7 (lit< tt) (zero_of u.a0 e0) (zero_of u.a1 e1) (zero_of u.a2 e2) one_is refl) (sign_of u.a3 e3)

some_phase : (k : ℕ) (u : Element) → OfSize k u → (j : ℕ) × IsPhase k u j
unfolding root2_power
some_phase zero u s = unit_phase_at_zero u s
some_phase (suc k) u s =
    let (j, p) = some_phase k (divided u) (divided_size s) in (
      j,
      record {
        below = p.below;
        is = sym (divides u (pairs s)) ∙ ap (product root2) p.is ∙ sym (product_assoc root2 (root2_power k) (omega_power j));
      },
    )

-- ---- the signs of the coefficients tell the power
positive_sign : (n above below at : ℕ) → by_sign (pos (suc n)) above below at ≡ above
unfolding by_sign
positive_sign n above below at =
    ap (λ (t : Bool). cond t above (cond (lt_z (pos (suc n)) (pos 0)) below at)) (leb-suc-suc 0 n ∙ leb-zero n)

-- a number's double has its sign
double_sign : (z : ℤ) (above below at : ℕ) → by_sign (z +ℤ z) above below at ≡ by_sign z above below at
unfolding by_sign
double_sign (pos zero) above below at = refl
double_sign (pos (suc n)) above below at =
    ap (λ (m : ℕ). by_sign (pos m) above below at) (suc-add n (suc n)) ∙ positive_sign (n + suc n) above below at
    ∙ sym (positive_sign n above below at)
double_sign (negsuc n) above below at = refl

double_phase : (x : Element) → phase (sum x x) ≡ phase x
unfolding phase sum
double_phase x = simp double_sign

-- at k = 0 and at k = 1, of each of the eight powers, by one test
phase_test : ℕ → ℕ → Bool
phase_test k j = eqb (phase (product (root2_power k) (omega_power j))) j

tested_phase : (k : ℕ) → Holds (every 8 (phase_test k)) → (j : ℕ) → j < 8 → phase (product (root2_power k) (omega_power j)) ≡ j
unfolding phase_test
tested_phase k h j below = eqb→eq (phase (product (root2_power k) (omega_power j))) j (every_at 8 (phase_test k) h j below)

low_phases : Holds (every 8 (phase_test 0)) × Holds (every 8 (phase_test 1))
unfolding every phase_test phase by_sign omega_power root2_power product sum multiple turned ω one root2
low_phases = (tt, tt)

power_phase : (k j : ℕ) → j < 8 → phase (product (root2_power k) (omega_power j)) ≡ j
unfolding root2_power
power_phase zero j below = tested_phase 0 low_phases.0 j below
power_phase (suc zero) j below = tested_phase 1 low_phases.1 j below
power_phase (suc (suc k)) j below =
    ap phase
    (solve elements (root2 ∷ root2_power k ∷ omega_power j ∷ []) ((var 0 ⊗ (var 0 ⊗ var 1)) ⊗ var 2) (var 0 ⊗ (var 0 ⊗ (var 1 ⊗ var 2))) tt
    ∙ root2_twice (product (root2_power k) (omega_power j)))
    ∙ double_phase (product (root2_power k) (omega_power j)) ∙ power_phase k j below

-- an element of squared size 2^k is (√2)^k times the power of ω that its signs tell
pub phase_of_size : (k : ℕ) (u : Element) → OfSize k u → IsPhase k u (phase u)
phase_of_size k u s =
    let (j, p) = some_phase k u s in
    subst (IsPhase k u) (sym (ap phase p.is ∙ power_phase k j p.below)) p
