-- The parities that a form leaves in a vector: none in the row of its leftmost syllable and, in the other two, a bit that the
-- tail alone decides; in some column that bit is one, by one test over the 192 tails. Assumes nothing.
use mathlib.Core.Path.{◌≡◌, refl, ap, ap₂, ◌∙◌}
use mathlib.Core.Bool.{Bool, true, false, ◌||◌, true≢false}
use mathlib.Core.List.{List, [], ◌∷◌, ◌++◌, append_assoc}
use Prim.Native.Nat.{ℕ, ◌+◌, ◌<◌}
use native.Mathlib.Omega.{arith}
use lib.Dec.{T as Holds}
use lib.ListN.{length}
use Rattle.algebra.proofs.Parity.{differ, differ_false}
use Rattle.form.specs.Tail.{tails, tail_text, head_text}
use Rattle.form.specs.Form.{Syllable, HT, SHT, Parts, syllable_text, syllables_text, front_text, form_text}
use Rattle.form.specs.Count.{t_count}
use Rattle.form.proofs.Count.{t_count_form, front_count}
use Rattle.form.proofs.Every.{every, every_at}
use Rattle.rotation.specs.Rotation.{Axis, axis_X, axis_Y, axis_Z, Leftmost, third_for_T, first_for_HT, second_for_SHT}
use Rattle.ring.specs.declared.Vector.{Vector}
use Rattle.ring.specs.Real.{negated}
use Rattle.rotation.specs.Vector.{added, subtracted, by_root2, unit, rotated, text_rotated, at}
use Rattle.rotation.proofs.Parity.{odd_at, mixed, pattern, after_T, after_HT, after_SHT}

-- a syllable leaves the bit as it was
mixed_syllable : (s : Syllable) (w : List ℕ) (v : Vector) → mixed (text_rotated (syllable_text s ++ w) v) ≡ mixed (text_rotated w v)
unfolding mixed at pattern syllable_text
mixed_syllable HT w v = ap₂ differ (after_HT w v axis_X) (after_HT w v axis_Y)
mixed_syllable SHT w v = ap₂ differ (after_SHT w v axis_X) (after_SHT w v axis_Y) ∙ differ_false (mixed (text_rotated w v))

mixed_syllables : (ss : List Syllable) (w : List ℕ) (v : Vector) → mixed (text_rotated (syllables_text ss ++ w) v) ≡ mixed (text_rotated w v)
unfolding syllables_text
mixed_syllables [] w v = refl
mixed_syllables (s ∷ ss) w v =
    ap (λ (t : List ℕ). mixed (text_rotated t v)) (append_assoc (syllable_text s) (syllables_text ss) w)
    ∙ mixed_syllable s (syllables_text ss ++ w) v ∙ mixed_syllables ss w v

-- the bit that the syllables and the tail leave is the tail's
settled : (row : Axis) (ss : List Syllable) (n : ℕ) (v : Vector) (p : Axis) →
    pattern row (mixed (text_rotated (syllables_text ss ++ tail_text n) v)) p ≡ pattern row (mixed (text_rotated (tail_text n) v)) p
settled row ss n v p = ap (λ (bit : Bool). pattern row bit p) (mixed_syllables ss (tail_text n) v)

-- the rows' parities by the leftmost syllable
pub leftmost_pattern : (parts : Parts) {row : Axis} → Leftmost parts row → (v : Vector) (p : Axis) →
    odd_at (text_rotated (form_text parts) v) p ≡ pattern row (mixed (text_rotated (tail_text parts.tail) v)) p
unfolding form_text front_text syllables_text syllable_text
leftmost_pattern parts (third_for_T front) v p =
    let rest = syllables_text parts.syllables ++ tail_text parts.tail in
    ap (λ (b : Bool). odd_at (text_rotated (front_text b ++ rest) v) p) front
    ∙ after_T rest v p
    ∙ settled axis_Z parts.syllables parts.tail v p
leftmost_pattern parts (first_for_HT {rest = ss} front syllables) v p =
    ap₂ (λ (b : Bool) (l : List Syllable). odd_at (text_rotated (front_text b ++ (syllables_text l ++ tail_text parts.tail)) v) p) front syllables
    ∙ after_HT (syllables_text ss ++ tail_text parts.tail) v p
    ∙ settled axis_X ss parts.tail v p
leftmost_pattern parts (second_for_SHT {rest = ss} front syllables) v p =
    ap₂ (λ (b : Bool) (l : List Syllable). odd_at (text_rotated (front_text b ++ (syllables_text l ++ tail_text parts.tail)) v) p) front syllables
    ∙ after_SHT (syllables_text ss ++ tail_text parts.tail) v p
    ∙ settled axis_Y ss parts.tail v p

-- a form with a T has a leftmost syllable
pub leftmost_row : (parts : Parts) → 0 < t_count (form_text parts) → (row : Axis) × Leftmost parts row
leftmost_row parts some = by_parts parts.front parts.syllables refl refl (t_count_form parts)
  where
    by_parts : (front : Bool) (ss : List Syllable) → parts.front ≡ front → parts.syllables ≡ ss →
        t_count (form_text parts) ≡ front_count front + length ss → (row : Axis) × Leftmost parts row
    by_parts true ss f s count = (axis_Z, third_for_T f)
    by_parts false [] f s count = absurd (omega arith)
    by_parts false (HT ∷ ss) f s count = (axis_X, first_for_HT f s)
    by_parts false (SHT ∷ ss) f s count = (axis_Y, second_for_SHT f s)

-- in some column the tail leaves x and y different in parity
mixed_column : ℕ → Bool
mixed_column n = mixed (text_rotated (tail_text n) (unit axis_X)) || mixed (text_rotated (tail_text n) (unit axis_Y))

all_mixed : Holds (every tails mixed_column)
unfolding every mixed_column mixed text_rotated rotated negated added subtracted by_root2 tail_text head_text unit
all_mixed = tt

pub odd_column : (n : ℕ) → n < tails → (column : Axis) × (mixed (text_rotated (tail_text n) (unit column)) ≡ true)
unfolding mixed_column
odd_column n below =
    by_columns (mixed (text_rotated (tail_text n) (unit axis_X))) (mixed (text_rotated (tail_text n) (unit axis_Y))) refl refl
    (every_at tails mixed_column all_mixed n below)
  where
    by_columns : (x y : Bool) → mixed (text_rotated (tail_text n) (unit axis_X)) ≡ x → mixed (text_rotated (tail_text n) (unit axis_Y)) ≡ y →
        Holds (x || y) → (column : Axis) × (mixed (text_rotated (tail_text n) (unit column)) ≡ true)
    by_columns true y at_x at_y some = (axis_X, at_x)
    by_columns false true at_x at_y some = (axis_Y, at_y)
    by_columns false false at_x at_y some = absurd some

-- the even row is told by the parities
pub pattern_row : (row p : Axis) → pattern row true p ≡ false → p ≡ row
unfolding pattern
pattern_row axis_X axis_X e = refl
pattern_row axis_X axis_Y e = absurd (true≢false e)
pattern_row axis_X axis_Z e = absurd (true≢false e)
pattern_row axis_Y axis_X e = absurd (true≢false e)
pattern_row axis_Y axis_Y e = refl
pattern_row axis_Y axis_Z e = absurd (true≢false e)
pattern_row axis_Z axis_X e = absurd (true≢false e)
pattern_row axis_Z axis_Y e = absurd (true≢false e)
pattern_row axis_Z axis_Z e = refl

pub pattern_zero : (row : Axis) (bit : Bool) → pattern row bit row ≡ false
unfolding pattern
pattern_zero axis_X bit = refl
pattern_zero axis_Y bit = refl
pattern_zero axis_Z bit = refl

pub pattern_other : (row : Axis) → (p : Axis) × (pattern row true p ≡ true)
unfolding pattern
pattern_other axis_X = (axis_Y, refl)
pattern_other axis_Y = (axis_Z, refl)
pattern_other axis_Z = (axis_X, refl)
