-- How a unitary record is taken down to nothing, a letter at a time from the left, and the letter list that this gives.
-- Document 01, "The form": "every such matrix with exponent above 0 loses exactly one when the right one of T, HT, SHT is
-- taken off the left"; here one vector stands for the rotation matrix.
use Rattle.std.specs.Prelude.{ℕ, zero, suc, ◌+◌, ◌-◌, ◌/◌, ◌%◌, Bool, true, false, cond, ◌&&◌, List, [], ◌∷◌, ◌++◌, ℤ, pos, ◌-ℤ◌, neg_ℤ, replicate}
use Rattle.std.specs.Int.Signed.{lt_z}
use Rattle.algebra.specs.Parity.{odd}
use Rattle.ring.specs.declared.Element.{Element}
use Rattle.ring.specs.Element.{element, sum}
use Rattle.matrix.specs.declared.Matrix.{Matrix}
use Rattle.matrix.specs.Matrix.{matrix}
use Rattle.matrix.specs.Letter.{H, S, T, W, X}
use Rattle.complete.specs.declared.Rest.{Rest}
use Rattle.ring.specs.declared.Vector.{Vector}
use Rattle.ring.specs.Real.{vector, negated, over_root2, half_sum, half_difference}
use Rattle.complete.specs.Vector.{vector_of}

-- ---- one letter
-- ω⁻¹ times an element
unfoldable pub turned_back : Element → Element
turned_back x = element x.a1 x.a2 x.a3 (neg_ℤ x.a0)

unfoldable pub difference : Element → Element → Element
difference x y = element (x.a0 -ℤ y.a0) (x.a1 -ℤ y.a1) (x.a2 -ℤ y.a2) (x.a3 -ℤ y.a3)

-- S, H, X or T taken off the left of a record. H is not divided by √2: the exponent grows by one instead.
unfoldable pub record_without_S : Matrix → Matrix
record_without_S m =
    matrix m.exponent m.top.left m.top.right (turned_back (turned_back m.bottom.left)) (turned_back (turned_back m.bottom.right))

unfoldable pub record_without_H : Matrix → Matrix
record_without_H m =
    matrix (m.exponent + 1) (sum m.top.left m.bottom.left) (sum m.top.right m.bottom.right)
    (difference m.top.left m.bottom.left) (difference m.top.right m.bottom.right)

unfoldable pub record_without_X : Matrix → Matrix
record_without_X m = matrix m.exponent m.bottom.left m.bottom.right m.top.left m.top.right

unfoldable pub record_without_T : Matrix → Matrix
record_without_T m =
    matrix m.exponent m.top.left m.top.right (turned_back m.bottom.left) (turned_back m.bottom.right)

-- and what becomes of the vector. T, and `lowered`, where nothing is taken off, divide it by √2.
unfoldable pub vector_without_S : Vector → Vector
vector_without_S v = vector v.y (negated v.x) v.z

unfoldable pub vector_without_H : Vector → Vector
vector_without_H v = vector v.z (negated v.y) v.x

unfoldable pub vector_without_X : Vector → Vector
vector_without_X v = vector v.x (negated v.y) (negated v.z)

unfoldable pub vector_without_T : Vector → Vector
vector_without_T v = vector (half_sum v.x v.y) (half_difference v.y v.x) (over_root2 v.z)

unfoldable pub vector_lowered : Vector → Vector
vector_lowered v = vector (over_root2 v.x) (over_root2 v.y) (over_root2 v.z)

-- both together
abbrev pub rest : Matrix → Vector → Rest
rest m v = record { matrix = m; vector = v }

abbrev pub without_S : Rest → Rest
without_S r = rest (record_without_S r.matrix) (vector_without_S r.vector)

abbrev pub without_H : Rest → Rest
without_H r = rest (record_without_H r.matrix) (vector_without_H r.vector)

abbrev pub without_X : Rest → Rest
without_X r = rest (record_without_X r.matrix) (vector_without_X r.vector)

abbrev pub without_T : Rest → Rest
without_T r = rest (record_without_T r.matrix) (vector_without_T r.vector)

abbrev pub lowered : Rest → Rest
lowered r = rest r.matrix (vector_lowered r.vector)

-- a letter, or nothing
unfoldable pub if_taken : Bool → ℕ → List ℕ
if_taken true b = b ∷ []
if_taken false b = []

-- ---- above exponent 0: the pair of odd numerators tells what is taken off
abbrev pub odd_x : Rest → Bool
odd_x r = odd r.vector.x.whole

abbrev pub odd_y : Rest → Bool
odd_y r = odd r.vector.y.whole

abbrev pub odd_z : Rest → Bool
odd_z r = odd r.vector.z.whole

-- x and z: SHT, so S is taken off, and y and z are left odd
unfoldable pub past_S : Rest → Rest
past_S r = cond (odd_x r && odd_z r) (without_S r) r

-- y and z: HT, so H is taken off, and x and y are left odd
unfoldable pub past_H : Rest → Rest
past_H r = cond (odd_y r && odd_z r) (without_H r) r

-- x and y: T; nothing odd: nothing is taken off, and the numerators are divided by √2
unfoldable pub past_T : Rest → Rest
past_T r = cond (odd_x r && odd_y r) (without_T r) (lowered r)

unfoldable pub syllable_taken : Rest → List ℕ
syllable_taken r =
    let s = past_S r in
    let h = past_H s in
    if_taken (odd_x r && odd_z r) S ++ (if_taken (odd_y s && odd_z s) H ++ if_taken (odd_x h && odd_y h) T)

unfoldable pub past_syllable : Rest → Rest
past_syllable r = past_T (past_H (past_S r))

-- ---- at exponent 0: the vector is an axis or its opposite, and one of nothing, X, H, HX, SH, SHX brings it to +z
unfoldable pub off_y : Rest → Rest
off_y r = cond (odd_y r) (without_S r) r

unfoldable pub off_x : Rest → Rest
off_x r = cond (odd_x r) (without_H r) r

abbrev pub downward : Rest → Bool
downward r = lt_z r.vector.z.whole (pos 0)

unfoldable pub turned_up : Rest → Rest
turned_up r = cond (downward r) (without_X r) r

unfoldable pub axis_taken : Rest → List ℕ
axis_taken r =
    let s = off_y r in
    let h = off_x s in
    if_taken (odd_y r) S ++ (if_taken (odd_x s) H ++ if_taken (downward h) X)

unfoldable pub upright : Rest → Rest
upright r = turned_up (off_x (off_y r))

-- ---- with the vector at +z: the record is diagonal, and its entries are powers of ω
-- by the sign of a number: above, below or at zero
unfoldable pub by_sign : ℤ → ℕ → ℕ → ℕ → ℕ
by_sign z above below at = cond (lt_z (pos 0) z) above (cond (lt_z z (pos 0)) below at)

-- j, of an element that is a positive multiple of ω^j or of √2·ω^j: by the signs of its coefficients
unfoldable pub phase : Element → ℕ
phase x =
    by_sign x.a0
    (by_sign x.a2 1 7 0)
    (by_sign x.a2 3 5 4)
    (by_sign x.a2 2 6
    (by_sign x.a1 (by_sign x.a3 2 0 1) (by_sign x.a3 4 6 5) (by_sign x.a3 3 7 0)))

-- from ω^j on to ω^l
abbrev pub turn : ℕ → ℕ → ℕ
turn j l = (l + 8 - j) % 8

-- diag(ω^j, ω^l) is T or nothing, S at most three times, W at most seven times
unfoldable pub phases_text : ℕ → ℕ → List ℕ
phases_text j l = replicate (turn j l % 2) T ++ (replicate (turn j l / 2) S ++ replicate j W)

unfoldable pub diagonal_text : Matrix → List ℕ
diagonal_text m = phases_text (phase m.top.left) (phase m.bottom.right)

-- ---- the whole way down
-- the letter list of what is left, by the vector's exponent
unfoldable pub word_below : ℕ → Rest → List ℕ
word_below zero r = axis_taken r ++ diagonal_text (upright r).matrix
word_below (suc n) r = syllable_taken r ++ word_below n (past_syllable r)

-- the letter list of a record
unfoldable pub word_of : Matrix → List ℕ
word_of m = word_below (m.exponent + m.exponent) (rest m (vector_of m))
