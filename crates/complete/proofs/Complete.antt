-- Completeness: every unitary record is, in meaning, the matrix of a letter list, with at most 2k + 1 T's; and a record
-- that means the same as a letter list is unitary. The list is `word_of`, which computes. Assumes nothing.
use mathlib.Core.Path.{◌≡◌, refl, ap, ap₂, sym, ◌∙◌}
use mathlib.Core.Bool.{Bool, true, false, ◌&&◌}
use mathlib.Core.List.{List, [], ◌∷◌, ◌++◌}
use Prim.Native.Nat.{ℕ, zero, suc, ◌+◌, ◌*◌, ◌/◌, ◌%◌, ◌≤◌}
use native.Mathlib.Omega.{arith}
use lib.Dec.{eqb}
use lib.IntN.{pos, ◌+ℤ◌, ◌-ℤ◌}
use lib.ListN.{replicate}
use Rattle.lists.specs.List.{none, more}
use Rattle.lists.proofs.List.{every_join, every_replicate}
use Rattle.algebra.proofs.Solver.{var, con, ◌⊕◌, ◌⊗◌, ⊖◌, combine, given, done}
use Rattle.ring.specs.declared.Element.{Element}
use Rattle.ring.specs.Element.{one, omega2, sum, product, multiple, turned, negation, conjugate, size_whole, size_root2, root2_power}
use Rattle.ring.proofs.Formal.{formal, ◌+ᶠ◌, -ᶠ◌, ◌*ᶠ◌, conjugateᶠ, realᶠ, xᶠ, coefficients, coefficientwise}
use Rattle.ring.proofs.Ring.{elements, product_comm, product_one, conjugate_product, conjugate_conjugate}
use Rattle.matrix.specs.declared.Matrix.{Matrix}
use Rattle.matrix.specs.Matrix.{Same, Unitary}
use Rattle.matrix.specs.Letter.{H, S, T, W, X, is_letter, matrix_of, Letters}
use Rattle.matrix.proofs.Times.{matrix_of_append}
use Rattle.matrix.proofs.Same.{same_of_equal, same_trans, same_times_left}
use Rattle.matrix.proofs.Unitary.{isometry_of_unitary, unitary_same, unitary_matrix_of}
use Rattle.form.specs.Count.{t_count}
use Rattle.form.proofs.Count.{t_count_append, t_count_replicate}
use Rattle.complete.specs.declared.Rest.{Rest}
use Rattle.ring.specs.Number.{Number}
use Rattle.ring.specs.Real.{number, real}
use Rattle.complete.specs.Vector.{vector_of, two, Guided}
use Rattle.complete.specs.Descent.{rest, if_taken, odd_x, odd_y, odd_z, past_S, past_H, syllable_taken, past_syllable, off_y, off_x, downward, axis_taken, upright, turn, phases_text, diagonal_text, phase, word_below, word_of}
use Rattle.complete.proofs.Syllable.{Restores, past_syllable_guided, syllable_restores}
use Rattle.complete.proofs.Axis.{upright_guided, upright_up, axis_restores}
use Rattle.complete.proofs.Unit.{size_real}
use Rattle.complete.proofs.Diagonal.{diagonal_means}

-- ---- the vector of a record's first column
-- 2·p = x + iy and 2·conj(p) = x − iy, with x and y numbers of Z[√2]
abbrev doubled_x : Element → Number
doubled_x p = number (p.a0 +ℤ p.a0) (p.a1 -ℤ p.a3)

abbrev doubled_y : Element → Number
doubled_y p = number (p.a2 +ℤ p.a2) (p.a1 +ℤ p.a3)

doubled : (p : Element) → product two p ≡ sum (real (doubled_x p)) (product omega2 (real (doubled_y p)))
unfolding product sum multiple turned omega2 real
doubled p =
    coefficientwise (coefficients (p ∷ []))
    (formal (con (pos 2)) (con (pos 0)) (con (pos 0)) (con (pos 0)) *ᶠ xᶠ)
    (realᶠ (var 0 ⊕ var 0) (var 1 ⊕ ⊖ var 3) +ᶠ formal (con (pos 0)) (con (pos 0)) (con (pos 1)) (con (pos 0)) *ᶠ realᶠ (var 2 ⊕ var 2) (var 1 ⊕ var 3))
    (tt, tt, tt, tt)

doubled_conjugate : (p : Element) → product two (conjugate p) ≡ sum (real (doubled_x p)) (negation (product omega2 (real (doubled_y p))))
unfolding product sum multiple turned omega2 negation conjugate real
doubled_conjugate p =
    coefficientwise (coefficients (p ∷ []))
    (formal (con (pos 2)) (con (pos 0)) (con (pos 0)) (con (pos 0)) *ᶠ conjugateᶠ xᶠ)
    (realᶠ (var 0 ⊕ var 0) (var 1 ⊕ ⊖ var 3) +ᶠ (-ᶠ (formal (con (pos 0)) (con (pos 0)) (con (pos 1)) (con (pos 0)) *ᶠ realᶠ (var 2 ⊕ var 2) (var 1 ⊕ var 3))))
    (tt, tt, tt, tt)

-- |u|² − |t|²
size_difference : (u t : Element) →
    real (number (size_whole u -ℤ size_whole t) (size_root2 u -ℤ size_root2 t)) ≡ sum (product u (conjugate u)) (negation (product t (conjugate t)))
unfolding real sum negation
size_difference u t =
    coefficientwise (size_whole u ∷ size_root2 u ∷ size_whole t ∷ size_root2 t ∷ [])
    (realᶠ (var 0 ⊕ ⊖ var 2) (var 1 ⊕ ⊖ var 3)) (realᶠ (var 0) (var 1) +ᶠ (-ᶠ realᶠ (var 2) (var 3))) (tt, tt, tt, tt)
    ∙ ap₂ (λ (x y : Element). sum x (negation y)) (sym (size_real u)) (sym (size_real t))

-- a unitary record is guided by the vector of its first column
pub guided_of_unitary : {m : Matrix} → Unitary m → Guided (rest m (vector_of m)) (m.exponent + m.exponent)
unfolding vector_of root2_power
guided_of_unitary {m} unitary = record {
  unitary = unitary;
  scale = 0;
  led = record {
    top =
        combine elements values (given (con (pos 1)) (var 0 ⊗ var 1 ⊕ var 2 ⊗ var 3) (var 4) column
        (given (⊖ con (pos 1)) (var 5) (var 0 ⊗ var 1 ⊕ ⊖ (var 2 ⊗ var 3)) heights done))
        (con (pos 2) ⊗ (var 0 ⊗ var 1)) (con (pos 1) ⊗ (var 4 ⊕ var 5)) tt;
    above = ap (product two) (sym (conjugate_product t (conjugate u) ∙ ap (product (conjugate t)) (conjugate_conjugate u) ∙ product_comm (conjugate t) u)) ∙ doubled_conjugate p ∙ sym (one_product _);
    below = doubled p ∙ sym (one_product _);
    bottom =
        combine elements values (given (con (pos 1)) (var 0 ⊗ var 1 ⊕ var 2 ⊗ var 3) (var 4) column
        (given (con (pos 1)) (var 5) (var 0 ⊗ var 1 ⊕ ⊖ (var 2 ⊗ var 3)) heights done))
        (con (pos 2) ⊗ (var 2 ⊗ var 3)) (con (pos 1) ⊗ (var 4 ⊕ ⊖ var 5)) tt;
  };
}
  where
    u : Element
    u = m.top.left

    t : Element
    t = m.bottom.left

    p : Element
    p = product t (conjugate u)

    height : Element
    height = real (number (size_whole u -ℤ size_whole t) (size_root2 u -ℤ size_root2 t))

    heights : height ≡ sum (product u (conjugate u)) (negation (product t (conjugate t)))
    heights = size_difference u t

    values : List Element
    values = u ∷ conjugate u ∷ t ∷ conjugate t ∷ root2_power (m.exponent + m.exponent) ∷ height ∷ []

    column : sum (product u (conjugate u)) (product t (conjugate t)) ≡ root2_power (m.exponent + m.exponent)
    column = (isometry_of_unitary unitary).left

    one_product : (x : Element) → product one x ≡ x
    one_product x = product_comm one x ∙ product_one x

-- ---- the list means the record
means_append : {s : List ℕ} (t : List ℕ) {m n : Matrix} → Restores s n m → Same (matrix_of t) n → Same (matrix_of (s ++ t)) m
means_append {s} t restores means =
    same_trans (same_of_equal (matrix_of_append s t)) (same_trans (same_times_left (matrix_of s) means) restores.same)

pub word_means : (n : ℕ) (r : Rest) → Guided r n → Same (matrix_of (word_below n r)) r.matrix
unfolding word_below
word_means zero r g = means_append (diagonal_text (upright r).matrix) (axis_restores r) (diagonal_means (upright_guided g) (upright_up g))
word_means (suc n) r g =
    means_append (word_below n (past_syllable r)) (syllable_restores r) (word_means n (past_syllable r) (past_syllable_guided g))

-- ---- its T's: at most one for each step down, and one more
t_count_if_taken : (t : Bool) (b : ℕ) → eqb b T ≡ false → t_count (if_taken t b) ≡ 0
unfolding if_taken
t_count_if_taken true b e = t_count_replicate 1 b e
t_count_if_taken false b e = t_count_replicate 0 b e

t_count_if_T : (t : Bool) → t_count (if_taken t T) ≤ 1
unfolding if_taken t_count
t_count_if_T true = omega arith
t_count_if_T false = omega arith

t_count_T's : (n : ℕ) → t_count (replicate n T) ≡ n
unfolding t_count
t_count_T's zero = refl
t_count_T's (suc n) = ap suc (t_count_T's n)

syllable_T's : (r : Rest) → t_count (syllable_taken r) ≤ 1
unfolding syllable_taken
syllable_T's r =
    let s = past_S r in
    let h = past_H s in
    let first = if_taken (odd_x r && odd_z r) S in
    let second = if_taken (odd_y s && odd_z s) H in
    let third = if_taken (odd_x h && odd_y h) T in
    omega (
      arith,
      t_count_append first (second ++ third),
      t_count_append second third,
      t_count_if_taken (odd_x r && odd_z r) S refl,
      t_count_if_taken (odd_y s && odd_z s) H refl,
      t_count_if_T (odd_x h && odd_y h),
    )

axis_T's : (r : Rest) → t_count (axis_taken r) ≡ 0
unfolding axis_taken
axis_T's r =
    let s = off_y r in
    let h = off_x s in
    let first = if_taken (odd_y r) S in
    let second = if_taken (odd_x s) H in
    let third = if_taken (downward h) X in
    omega (
      arith,
      t_count_append first (second ++ third),
      t_count_append second third,
      t_count_if_taken (odd_y r) S refl,
      t_count_if_taken (odd_x s) H refl,
      t_count_if_taken (downward h) X refl,
    )

diagonal_T's : (m : Matrix) → t_count (diagonal_text m) ≤ 1
unfolding diagonal_text phases_text
diagonal_T's m =
    let j = phase m.top.left in
    let turned = turn j (phase m.bottom.right) in
    omega (
      arith,
      t_count_append (replicate (turned % 2) T) (replicate (turned / 2) S ++ replicate j W),
      t_count_append (replicate (turned / 2) S) (replicate j W),
      t_count_T's (turned % 2),
      t_count_replicate (turned / 2) S refl,
      t_count_replicate j W refl,
    )

pub word_T's : (n : ℕ) (r : Rest) → t_count (word_below n r) ≤ n + 1
unfolding word_below
word_T's zero r =
    omega (arith, t_count_append (axis_taken r) (diagonal_text (upright r).matrix), axis_T's r, diagonal_T's (upright r).matrix)
word_T's (suc n) r =
    omega (
      arith,
      t_count_append (syllable_taken r) (word_below n (past_syllable r)),
      syllable_T's r,
      word_T's n (past_syllable r),
    )

-- ---- its bytes are letters
letters_if_taken : (t : Bool) (b : ℕ) → is_letter b ≡ true → Letters (if_taken t b)
unfolding if_taken
letters_if_taken true b e = more e none
letters_if_taken false b e = none

syllable_letters : (r : Rest) → Letters (syllable_taken r)
unfolding syllable_taken is_letter
syllable_letters r =
    let s = past_S r in
    let h = past_H s in
    every_join (letters_if_taken (odd_x r && odd_z r) S refl)
    (every_join (letters_if_taken (odd_y s && odd_z s) H refl) (letters_if_taken (odd_x h && odd_y h) T refl))

axis_letters : (r : Rest) → Letters (axis_taken r)
unfolding axis_taken is_letter
axis_letters r =
    let s = off_y r in
    let h = off_x s in
    every_join (letters_if_taken (odd_y r) S refl)
    (every_join (letters_if_taken (odd_x s) H refl) (letters_if_taken (downward h) X refl))

diagonal_letters : (m : Matrix) → Letters (diagonal_text m)
unfolding diagonal_text phases_text is_letter
diagonal_letters m =
    let j = phase m.top.left in
    let turned = turn j (phase m.bottom.right) in
    every_join (every_replicate (turned % 2) T refl)
    (every_join (every_replicate (turned / 2) S refl) (every_replicate j W refl))

pub word_letters : (n : ℕ) (r : Rest) → Letters (word_below n r)
unfolding word_below
word_letters zero r = every_join (axis_letters r) (diagonal_letters (upright r).matrix)
word_letters (suc n) r = every_join (syllable_letters r) (word_letters n (past_syllable r))

-- ---- every unitary record is, in meaning, the matrix of a letter list
pub complete : (m : Matrix) → Unitary m → (w : List ℕ) × Letters w × Same (matrix_of w) m × (t_count w ≤ 2 * m.exponent + 1)
unfolding word_of
complete m unitary =
    let n = m.exponent + m.exponent in
    let r = rest m (vector_of m) in
    (word_of m, word_letters n r, word_means n r (guided_of_unitary unitary), omega (arith, word_T's n r))

-- and a record that means the same as a letter list is unitary
pub unitary_of_letters : (m : Matrix) (w : List ℕ) → Letters w → Same (matrix_of w) m → Unitary m
unitary_of_letters m w letters means = unitary_same means (unitary_matrix_of w letters)
