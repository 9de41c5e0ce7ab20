-- What a letter taken off the left does to a record: in front of what is left it gives the record again, what is left is
-- unitary where the record is, and the vector of the first column turns with it. Identities between elements are the
-- solver's, with ω·ω⁻¹ = 1, i² = −1 and √2² = 2 as the given equations. Assumes nothing.
use mathlib.Core.Path.{◌≡◌, refl, ap, ap₂, sym, ◌∙◌, subst, subst₂}
use mathlib.Core.List.{List, [], ◌∷◌}
use Prim.Native.Nat.{ℕ, suc, ◌+◌}
use native.Mathlib.Nat.{zero-add}
use native.Mathlib.Omega.{arith}
use lib.IntN.{pos}
use Rattle.algebra.proofs.Solver.{Expr, var, con, ◌⊕◌, ◌⊗◌, ⊖◌, solve, combine, Hypotheses, given, done}
use Rattle.ring.specs.declared.Element.{Element}
use Rattle.ring.specs.Element.{nothing, one, omega as ω, omega2, root2, sum, product, multiple, turned, negation, conjugate, root2_power}
use Rattle.ring.proofs.Formal.{formal, -ᶠ◌, ◌*ᶠ◌, conjugateᶠ, xᶠ, coefficients, coefficientwise}
use Rattle.ring.proofs.Ring.{elements, sum_comm, conjugate_sum, conjugate_negation}
use Rattle.ring.proofs.Root2.{root2_squared}
use Rattle.matrix.specs.declared.Matrix.{Matrix}
use Rattle.matrix.specs.Matrix.{matrix, times, Same, EqualOver, column_product}
use Rattle.matrix.specs.Letter.{gate_H, gate_S, gate_X}
use Rattle.matrix.proofs.Entries.{equal_entries}
use Rattle.matrix.proofs.Unitary.{Isometry}
use Rattle.ring.specs.Number.{Number}
use Rattle.complete.specs.declared.Rest.{Rest}
use Rattle.ring.specs.Real.{real, negated}
use Rattle.complete.specs.Vector.{two, Bloch, Led}
use Rattle.complete.specs.Descent.{turned_back, difference, without_S, without_H, without_X, record_without_S, vector_without_S, record_without_H, vector_without_H, record_without_X, vector_without_X}

-- ---- ω⁻¹, i and √2
pub omega_unit : product (conjugate ω) ω ≡ one
unfolding product sum multiple turned ω conjugate one
omega_unit = refl

pub omega2_unit : product (negation omega2) omega2 ≡ one
unfolding product sum multiple turned omega2 negation one
omega2_unit = refl

pub omega2_squared : product omega2 omega2 ≡ negation one
unfolding product sum multiple turned omega2 negation one
omega2_squared = refl

-- turned back by one: ω⁻¹ times, and the conjugate ω times
pub back_product : (x : Element) → turned_back x ≡ product (conjugate ω) x
unfolding product sum multiple turned ω conjugate turned_back
back_product x =
    coefficientwise (coefficients (x ∷ [])) (formal (var 1) (var 2) (var 3) (⊖ var 0))
    (conjugateᶠ (formal (con (pos 0)) (con (pos 1)) (con (pos 0)) (con (pos 0))) *ᶠ xᶠ) (tt, tt, tt, tt)

pub conjugate_back : (x : Element) → conjugate (turned_back x) ≡ product ω (conjugate x)
unfolding product sum multiple turned ω conjugate turned_back
conjugate_back x =
    coefficientwise (coefficients (x ∷ [])) (conjugateᶠ (formal (var 1) (var 2) (var 3) (⊖ var 0)))
    (formal (con (pos 0)) (con (pos 1)) (con (pos 0)) (con (pos 0)) *ᶠ conjugateᶠ xᶠ) (tt, tt, tt, tt)

-- turned back twice: −i times, and the conjugate i times
pub back_twice_product : (x : Element) → turned_back (turned_back x) ≡ product (negation omega2) x
unfolding product sum multiple turned omega2 negation turned_back
back_twice_product x =
    coefficientwise (coefficients (x ∷ [])) (formal (var 2) (var 3) (⊖ var 0) (⊖ var 1))
    ((-ᶠ formal (con (pos 0)) (con (pos 0)) (con (pos 1)) (con (pos 0))) *ᶠ xᶠ) (tt, tt, tt, tt)

pub conjugate_back_twice : (x : Element) → conjugate (turned_back (turned_back x)) ≡ product omega2 (conjugate x)
unfolding product sum multiple turned omega2 conjugate turned_back
conjugate_back_twice x =
    coefficientwise (coefficients (x ∷ [])) (conjugateᶠ (formal (var 2) (var 3) (⊖ var 0) (⊖ var 1)))
    (formal (con (pos 0)) (con (pos 0)) (con (pos 1)) (con (pos 0)) *ᶠ conjugateᶠ xᶠ) (tt, tt, tt, tt)

pub difference_sum : (x y : Element) → difference x y ≡ sum x (negation y)
unfolding difference sum negation
difference_sum x y = refl

-- a column's entry under the rows of a diagonal record
upper_entry : (x y : Element) → sum (product one x) (product nothing y) ≡ x
upper_entry x y = solve elements (x ∷ y ∷ []) (con (pos 1) ⊗ var 0 ⊕ con (pos 0) ⊗ var 1) (var 0) tt

-- ---- a phase taken off the lower row: S and T
module _ (p q : Element) (unit : product p q ≡ one) (moved : Element → Element)
    (moved_product : (x : Element) → moved x ≡ product p x) (conjugate_moved : (x : Element) → conjugate (moved x) ≡ product q (conjugate x)) where
  abbrev without_phase : Matrix → Matrix
  without_phase m = matrix m.exponent m.top.left m.top.right (moved m.bottom.left) (moved m.bottom.right)

  -- the phase in front again
  lower_entry : (x y : Element) → sum (product nothing x) (product q (moved y)) ≡ y
  lower_entry x y =
      ap (λ (z : Element). sum (product nothing x) (product q z)) (moved_product y)
      ∙ combine elements (x ∷ y ∷ p ∷ q ∷ []) (given (var 1) (var 2 ⊗ var 3) (con (pos 1)) unit done)
      (con (pos 0) ⊗ var 0 ⊕ var 3 ⊗ (var 2 ⊗ var 1)) (var 1) tt

  pub phase_restored : (m : Matrix) → times (matrix 0 one nothing nothing q) (without_phase m) ≡ m
  unfolding times
  phase_restored m =
      equal_entries (zero-add m.exponent)
      (upper_entry m.top.left (moved m.bottom.left)) (upper_entry m.top.right (moved m.bottom.right))
      (lower_entry m.top.left m.bottom.left) (lower_entry m.top.right m.bottom.right)

  -- products of columns stay
  phase_column_product : (x y u v : Element) → column_product x (moved y) u (moved v) ≡ column_product x y u v
  phase_column_product x y u v =
      ap₂ (λ (a b : Element). sum (product x (conjugate u)) (product a b)) (moved_product y) (conjugate_moved v)
      ∙ combine elements (x ∷ y ∷ conjugate u ∷ conjugate v ∷ p ∷ q ∷ []) (given (var 1 ⊗ var 3) (var 4 ⊗ var 5) (con (pos 1)) unit done)
      (var 0 ⊗ var 2 ⊕ (var 4 ⊗ var 1) ⊗ (var 5 ⊗ var 3)) (var 0 ⊗ var 2 ⊕ var 1 ⊗ var 3) tt

  pub phase_isometry : {m : Matrix} → Isometry m → Isometry (without_phase m)
  phase_isometry {m} i = record {
    left = phase_column_product m.top.left m.bottom.left m.top.left m.bottom.left ∙ i.left;
    right = phase_column_product m.top.right m.bottom.right m.top.right m.bottom.right ∙ i.right;
    cross = phase_column_product m.top.left m.bottom.left m.top.right m.bottom.right ∙ i.cross;
  }

  -- the vector turns about z
  pub phase_bloch : {u t scale n x y z scale' n' x' y' z' : Element} → Bloch u t scale n x y z →
      product scale (sum n z) ≡ product scale' (sum n' z') →
      product scale (sum n (negation z)) ≡ product scale' (sum n' (negation z')) →
      product p (product scale (sum x (product omega2 y))) ≡ product scale' (sum x' (product omega2 y')) →
      product q (product scale (sum x (negation (product omega2 y)))) ≡ product scale' (sum x' (negation (product omega2 y'))) →
      Bloch u (moved t) scale' n' x' y' z'
  phase_bloch {u} {t} {scale} {n} {x} {y} {z} b upper lower forth back = record {
    top = b.top ∙ upper;
    above =
        ap (λ (a : Element). product two (product u a)) (conjugate_moved t)
        ∙ solve elements (two ∷ u ∷ conjugate t ∷ q ∷ []) (var 0 ⊗ (var 1 ⊗ (var 3 ⊗ var 2))) (var 3 ⊗ (var 0 ⊗ (var 1 ⊗ var 2))) tt
        ∙ ap (product q) b.above ∙ back;
    below =
        ap (λ (a : Element). product two (product a (conjugate u))) (moved_product t)
        ∙ solve elements (two ∷ conjugate u ∷ t ∷ p ∷ []) (var 0 ⊗ ((var 3 ⊗ var 2) ⊗ var 1)) (var 3 ⊗ (var 0 ⊗ (var 2 ⊗ var 1))) tt
        ∙ ap (product p) b.below ∙ forth;
    bottom =
        ap₂ (λ (a c : Element). product two (product a c)) (moved_product t) (conjugate_moved t)
        ∙ combine elements (two ∷ t ∷ conjugate t ∷ p ∷ q ∷ []) (given (var 0 ⊗ (var 1 ⊗ var 2)) (var 3 ⊗ var 4) (con (pos 1)) unit done)
        (var 0 ⊗ ((var 3 ⊗ var 1) ⊗ (var 4 ⊗ var 2))) (var 0 ⊗ (var 1 ⊗ var 2)) tt
        ∙ b.bottom ∙ lower;
  }

pub real_negated : (r : Number) → real (negated r) ≡ negation (real r)
unfolding real negated negation
real_negated r = refl

-- ---- S
pub S_restored : (r : Rest) → times gate_S (without_S r).matrix ≡ r.matrix
unfolding gate_S record_without_S
S_restored r =
    phase_restored (negation omega2) omega2 omega2_unit (λ (x : Element). turned_back (turned_back x)) back_twice_product conjugate_back_twice r.matrix

pub S_isometry : (r : Rest) → Isometry r.matrix → Isometry (without_S r).matrix
unfolding record_without_S
S_isometry r i =
    phase_isometry (negation omega2) omega2 omega2_unit (λ (x : Element). turned_back (turned_back x)) back_twice_product conjugate_back_twice {m = r.matrix} i

pub S_led : (r : Rest) (d n : ℕ) → Led r d n → Led (without_S r) d n
unfolding record_without_S vector_without_S
S_led r d n b =
    subst (λ (y : Element). Bloch u (turned_back (turned_back t)) (root2_power d) (root2_power n) (real r.vector.y) y (real r.vector.z))
    (sym (real_negated r.vector.x))
    (phase_bloch (negation omega2) omega2 omega2_unit (λ (x : Element). turned_back (turned_back x)) back_twice_product conjugate_back_twice
    b refl refl
    (combine elements values (given (⊖ (var 0 ⊗ var 2)) (var 3 ⊗ var 3) (⊖ con (pos 1)) omega2_squared done)
    (⊖ var 3 ⊗ (var 0 ⊗ (var 1 ⊕ var 3 ⊗ var 2))) (var 0 ⊗ (var 2 ⊕ var 3 ⊗ ⊖ var 1)) tt)
    (combine elements values (given (⊖ (var 0 ⊗ var 2)) (var 3 ⊗ var 3) (⊖ con (pos 1)) omega2_squared done)
    (var 3 ⊗ (var 0 ⊗ (var 1 ⊕ ⊖ (var 3 ⊗ var 2)))) (var 0 ⊗ (var 2 ⊕ ⊖ (var 3 ⊗ ⊖ var 1))) tt))
  where
    u : Element
    u = r.matrix.top.left

    t : Element
    t = r.matrix.bottom.left

    values : List Element
    values = root2_power d ∷ real r.vector.x ∷ real r.vector.y ∷ omega2 ∷ []

-- ---- X
lower_of : (x y : Element) → sum (product nothing x) (product one y) ≡ y
lower_of x y = solve elements (x ∷ y ∷ []) (con (pos 0) ⊗ var 0 ⊕ con (pos 1) ⊗ var 1) (var 1) tt

pub X_restored : (r : Rest) → times gate_X (without_X r).matrix ≡ r.matrix
unfolding times gate_X record_without_X
X_restored r =
    let m = r.matrix in
    equal_entries (zero-add m.exponent)
    (lower_of m.bottom.left m.top.left) (lower_of m.bottom.right m.top.right)
    (upper_entry m.bottom.left m.top.left) (upper_entry m.bottom.right m.top.right)

pub X_isometry : (r : Rest) → Isometry r.matrix → Isometry (without_X r).matrix
unfolding record_without_X
X_isometry r i =
    let m = r.matrix in
    let a = m.top.left in
    let b = m.top.right in
    let c = m.bottom.left in
    let d = m.bottom.right in
    record {
      left = sum_comm (product c (conjugate c)) (product a (conjugate a)) ∙ i.left;
      right = sum_comm (product d (conjugate d)) (product b (conjugate b)) ∙ i.right;
      cross = sum_comm (product c (conjugate d)) (product a (conjugate b)) ∙ i.cross;
    }

-- the rows exchanged: y and z change their signs
exchange_bloch : {u t scale n x y z : Element} → Bloch u t scale n x y z → Bloch t u scale n x (negation y) (negation z)
exchange_bloch {u} {t} {scale} {n} {x} {y} {z} b = record {
  top = b.bottom;
  above = b.below ∙ solve elements (scale ∷ x ∷ y ∷ omega2 ∷ []) (var 0 ⊗ (var 1 ⊕ var 3 ⊗ var 2)) (var 0 ⊗ (var 1 ⊕ ⊖ (var 3 ⊗ ⊖ var 2))) tt;
  below = b.above ∙ solve elements (scale ∷ x ∷ y ∷ omega2 ∷ []) (var 0 ⊗ (var 1 ⊕ ⊖ (var 3 ⊗ var 2))) (var 0 ⊗ (var 1 ⊕ var 3 ⊗ ⊖ var 2)) tt;
  bottom = b.top ∙ solve elements (scale ∷ n ∷ z ∷ []) (var 0 ⊗ (var 1 ⊕ var 2)) (var 0 ⊗ (var 1 ⊕ ⊖ ⊖ var 2)) tt;
}

pub X_led : (r : Rest) (d n : ℕ) → Led r d n → Led (without_X r) d n
unfolding record_without_X vector_without_X
X_led r d n b =
    subst₂ (λ (y z : Element). Bloch r.matrix.bottom.left r.matrix.top.left (root2_power d) (root2_power n) (real r.vector.x) y z)
    (sym (real_negated r.vector.y)) (sym (real_negated r.vector.z)) (exchange_bloch b)

-- ---- H
-- √2 twice is two
abbrev twice_root2 : Element → Element
twice_root2 x = product root2 (product root2 x)

-- the power of an exponent that is larger by two
two_more : (k l : ℕ) → l ≡ suc (suc k) → root2_power l ≡ twice_root2 (root2_power k)
unfolding root2_power
two_more k l e = ap root2_power e

pub H_restored : (r : Rest) → Same (times gate_H (without_H r).matrix) r.matrix
unfolding times gate_H record_without_H EqualOver
H_restored r =
    let m = r.matrix in
    record {
      top_left = doubled_sum m.exponent m.top.left m.bottom.left;
      top_right = doubled_sum m.exponent m.top.right m.bottom.right;
      bottom_left = doubled_difference m.exponent m.top.left m.bottom.left;
      bottom_right = doubled_difference m.exponent m.top.right m.bottom.right;
    }
  where
    power : (k : ℕ) → root2_power (1 + (k + 1)) ≡ twice_root2 (root2_power k)
    power k = two_more k (1 + (k + 1)) (omega arith)

    doubled_sum : (k : ℕ) (u t : Element) →
        product (root2_power k) (sum (product one (sum u t)) (product one (difference u t))) ≡ product (root2_power (1 + (k + 1))) u
    doubled_sum k u t =
        ap (λ (x : Element). product (root2_power k) (sum (product one (sum u t)) (product one x))) (difference_sum u t)
        ∙ combine elements (root2_power k ∷ u ∷ t ∷ root2 ∷ []) (given (⊖ (var 0 ⊗ var 1)) (var 3 ⊗ var 3) (con (pos 2)) root2_squared done)
        (var 0 ⊗ (con (pos 1) ⊗ (var 1 ⊕ var 2) ⊕ con (pos 1) ⊗ (var 1 ⊕ ⊖ var 2))) ((var 3 ⊗ (var 3 ⊗ var 0)) ⊗ var 1) tt
        ∙ ap (λ (p : Element). product p u) (sym (power k))

    doubled_difference : (k : ℕ) (u t : Element) →
        product (root2_power k) (sum (product one (sum u t)) (product (negation one) (difference u t))) ≡ product (root2_power (1 + (k + 1))) t
    doubled_difference k u t =
        ap (λ (x : Element). product (root2_power k) (sum (product one (sum u t)) (product (negation one) x))) (difference_sum u t)
        ∙ combine elements (root2_power k ∷ u ∷ t ∷ root2 ∷ []) (given (⊖ (var 0 ⊗ var 2)) (var 3 ⊗ var 3) (con (pos 2)) root2_squared done)
        (var 0 ⊗ (con (pos 1) ⊗ (var 1 ⊕ var 2) ⊕ ⊖ con (pos 1) ⊗ (var 1 ⊕ ⊖ var 2))) ((var 3 ⊗ (var 3 ⊗ var 0)) ⊗ var 2) tt
        ∙ ap (λ (p : Element). product p t) (sym (power k))

-- a product of two columns is doubled by H
H_column_product : (x y u v : Element) → column_product (sum x y) (difference x y) (sum u v) (difference u v) ≡ twice_root2 (column_product x y u v)
H_column_product x y u v =
    ap₂ (λ (a b : Element). sum (product (sum x y) (conjugate (sum u v))) (product a (conjugate b))) (difference_sum x y) (difference_sum u v)
    ∙ ap₂ (λ (a b : Element). sum (product (sum x y) a) (product (sum x (negation y)) b)) (conjugate_sum u v)
    (conjugate_sum u (negation v) ∙ ap (sum (conjugate u)) (conjugate_negation v))
    ∙ combine elements (x ∷ y ∷ conjugate u ∷ conjugate v ∷ root2 ∷ [])
    (given (⊖ (var 0 ⊗ var 2 ⊕ var 1 ⊗ var 3)) (var 4 ⊗ var 4) (con (pos 2)) root2_squared done)
    ((var 0 ⊕ var 1) ⊗ (var 2 ⊕ var 3) ⊕ (var 0 ⊕ ⊖ var 1) ⊗ (var 2 ⊕ ⊖ var 3))
    (var 4 ⊗ (var 4 ⊗ (var 0 ⊗ var 2 ⊕ var 1 ⊗ var 3))) tt

pub H_isometry : (r : Rest) → Isometry r.matrix → Isometry (without_H r).matrix
unfolding record_without_H
H_isometry r i =
    let m = r.matrix in
    let a = m.top.left in
    let b = m.top.right in
    let c = m.bottom.left in
    let d = m.bottom.right in
    record {
      left = H_column_product a c a c ∙ ap twice_root2 i.left ∙ sym (power m.exponent);
      right = H_column_product b d b d ∙ ap twice_root2 i.right ∙ sym (power m.exponent);
      cross = H_column_product a c b d ∙ ap twice_root2 i.cross ∙ twice_nothing;
    }
  where
    power : (k : ℕ) → root2_power (k + 1 + (k + 1)) ≡ twice_root2 (root2_power (k + k))
    power k = two_more (k + k) (k + 1 + (k + 1)) (omega arith)

    twice_nothing : twice_root2 nothing ≡ nothing
    twice_nothing = solve elements (root2 ∷ []) (var 0 ⊗ (var 0 ⊗ con (pos 0))) (con (pos 0)) tt

-- H exchanges x and z, and y changes its sign
swap_bloch : {u t scale n x y z : Element} → Bloch u t scale n x y z →
    Bloch (sum u t) (difference u t) (twice_root2 scale) n z (negation y) x
swap_bloch {u} {t} {scale} {n} {x} {y} {z} b = record {
  top = ap (λ (c : Element). product two (product (sum u t) c)) (conjugate_sum u t)
      ∙ combine elements values (column (con (pos 1)) (con (pos 1)) (con (pos 1)) (var 5 ⊕ var 6))
      (con (pos 2) ⊗ ((var 0 ⊕ var 2) ⊗ (var 1 ⊕ var 3))) ((var 10 ⊗ (var 10 ⊗ var 4)) ⊗ (var 5 ⊕ var 6)) tt;
  above = ap (λ (c : Element). product two (product (sum u t) c)) conjugate_difference
      ∙ combine elements values (column (⊖ con (pos 1)) (con (pos 1)) (⊖ con (pos 1)) (var 8 ⊕ var 9 ⊗ var 7))
      (con (pos 2) ⊗ ((var 0 ⊕ var 2) ⊗ (var 1 ⊕ ⊖ var 3))) ((var 10 ⊗ (var 10 ⊗ var 4)) ⊗ (var 8 ⊕ ⊖ (var 9 ⊗ ⊖ var 7))) tt;
  below = ap₂ (λ (a c : Element). product two (product a c)) (difference_sum u t) (conjugate_sum u t)
      ∙ combine elements values (column (con (pos 1)) (⊖ con (pos 1)) (⊖ con (pos 1)) (var 8 ⊕ ⊖ (var 9 ⊗ var 7)))
      (con (pos 2) ⊗ ((var 0 ⊕ ⊖ var 2) ⊗ (var 1 ⊕ var 3))) ((var 10 ⊗ (var 10 ⊗ var 4)) ⊗ (var 8 ⊕ var 9 ⊗ ⊖ var 7)) tt;
  bottom = ap₂ (λ (a c : Element). product two (product a c)) (difference_sum u t) conjugate_difference
      ∙ combine elements values (column (⊖ con (pos 1)) (⊖ con (pos 1)) (con (pos 1)) (var 5 ⊕ ⊖ var 6))
      (con (pos 2) ⊗ ((var 0 ⊕ ⊖ var 2) ⊗ (var 1 ⊕ ⊖ var 3))) ((var 10 ⊗ (var 10 ⊗ var 4)) ⊗ (var 5 ⊕ ⊖ var 6)) tt;
}
  where
    conjugate_difference : conjugate (difference u t) ≡ sum (conjugate u) (negation (conjugate t))
    conjugate_difference = ap conjugate (difference_sum u t) ∙ conjugate_sum u (negation t) ∙ ap (sum (conjugate u)) (conjugate_negation t)

    values : List Element
    values = u ∷ conjugate u ∷ t ∷ conjugate t ∷ scale ∷ n ∷ x ∷ y ∷ z ∷ omega2 ∷ root2 ∷ []

    -- the four products of the column with these signs, and √2² = 2 for the vector's number e
    column : Expr → Expr → Expr → Expr → Hypotheses elements values
    column a c d e =
        given (con (pos 1)) (con (pos 2) ⊗ (var 0 ⊗ var 1)) (var 4 ⊗ (var 5 ⊕ var 8)) b.top
        (given a (con (pos 2) ⊗ (var 0 ⊗ var 3)) (var 4 ⊗ (var 6 ⊕ ⊖ (var 9 ⊗ var 7))) b.above
        (given c (con (pos 2) ⊗ (var 2 ⊗ var 1)) (var 4 ⊗ (var 6 ⊕ var 9 ⊗ var 7)) b.below
        (given d (con (pos 2) ⊗ (var 2 ⊗ var 3)) (var 4 ⊗ (var 5 ⊕ ⊖ var 8)) b.bottom
        (given (⊖ (var 4 ⊗ e)) (var 10 ⊗ var 10) (con (pos 2)) root2_squared done))))

pub H_led : (r : Rest) (d n : ℕ) → Led r d n → Led (without_H r) (suc (suc d)) n
unfolding record_without_H vector_without_H root2_power
H_led r d n b =
    subst (λ (y : Element). Bloch (sum u t) (difference u t) (twice_root2 (root2_power d)) (root2_power n) (real r.vector.z) y (real r.vector.x))
    (sym (real_negated r.vector.y)) (swap_bloch b)
  where
    u : Element
    u = r.matrix.top.left

    t : Element
    t = r.matrix.bottom.left
