-- A syllable taken off: above exponent 0 the odd pair of numerators leads to T, HT, SHT or nothing, what is left is guided
-- by a vector whose exponent is one less, and the syllable in front of it gives the record again. Assumes nothing.
use mathlib.Core.Path.{◌≡◌, refl, ap, sym, ◌∙◌, subst}
use mathlib.Core.Bool.{Bool, true, false, cond, ◌&&◌, true≢false, false≢true}
use mathlib.Core.List.{List, [], ◌∷◌, ◌++◌}
use Prim.Native.Nat.{ℕ, suc}
use Rattle.algebra.proofs.Parity.{differ}
use Rattle.matrix.specs.declared.Matrix.{Matrix}
use Rattle.matrix.specs.Matrix.{times, Same}
use Rattle.matrix.specs.Letter.{H, S, T, X, gate, matrix_of}
use Rattle.matrix.proofs.Times.{times_assoc, identity_times, matrix_of_append, matrix_of_letter}
use Rattle.matrix.proofs.Same.{same_of_equal, same_trans, same_times_left}
use Rattle.matrix.proofs.Unitary.{isometry_of_unitary, unitary_of_isometry}
use Rattle.complete.specs.declared.Rest.{Rest}
use Rattle.complete.specs.Vector.{Guided}
use Rattle.complete.specs.Descent.{without_S, without_H, without_X, without_T, lowered, if_taken, odd_x, odd_y, odd_z, past_S, past_H, past_T, syllable_taken, past_syllable, vector_without_S, vector_without_H}
use Rattle.complete.proofs.Turn.{S_restored, S_isometry, S_led, X_restored, X_isometry, X_led, H_restored, H_isometry, H_led}
use Rattle.complete.proofs.Norm.{Norm, norm_of_led, odd_pairs, odd_together}
use Rattle.complete.proofs.Lower.{lowered_led, T_restored, T_isometry, T_led}

-- the vector of a guided rest has its length
pub norm_of_guided : {r : Rest} {n : ℕ} → Guided r n → Norm r.vector n
norm_of_guided {r} {n} g = norm_of_led r g.scale n g.led

-- ---- a rest stays guided
pub S_guided : {r : Rest} {n : ℕ} → Guided r n → Guided (without_S r) n
S_guided {r} {n} g = record {
  unitary = unitary_of_isometry (S_isometry r (isometry_of_unitary g.unitary));
  scale = g.scale;
  led = S_led r g.scale n g.led;
}

pub X_guided : {r : Rest} {n : ℕ} → Guided r n → Guided (without_X r) n
X_guided {r} {n} g = record {
  unitary = unitary_of_isometry (X_isometry r (isometry_of_unitary g.unitary));
  scale = g.scale;
  led = X_led r g.scale n g.led;
}

pub H_guided : {r : Rest} {n : ℕ} → Guided r n → Guided (without_H r) n
H_guided {r} {n} g = record {
  unitary = unitary_of_isometry (H_isometry r (isometry_of_unitary g.unitary));
  scale = suc (suc g.scale);
  led = H_led r g.scale n g.led;
}

-- whichever way a test turns out
pub guided_either : (t : Bool) {r s : Rest} {n : ℕ} → Guided r n → Guided s n → Guided (cond t r s) n
guided_either true g h = g
guided_either false g h = h

pub past_S_guided : {r : Rest} {n : ℕ} → Guided r n → Guided (past_S r) n
unfolding past_S
past_S_guided {r} g = guided_either (odd_x r && odd_z r) (S_guided g) g

pub past_H_guided : {r : Rest} {n : ℕ} → Guided r n → Guided (past_H r) n
unfolding past_H
past_H_guided {r} g = guided_either (odd_y r && odd_z r) (H_guided g) g

-- after S: x and z are not odd together
pub past_S_parity : {r : Rest} {n : ℕ} → Guided r (suc n) → odd_x (past_S r) && odd_z (past_S r) ≡ false
unfolding past_S vector_without_S
past_S_parity {r} g = by (odd_x r && odd_z r) refl
  where
    others : (p q s : Bool) → p && s ≡ true → differ p (differ q s) ≡ false → q && s ≡ false
    others false q s e h = absurd (false≢true e)
    others true q false e h = absurd (false≢true e)
    others true false true e h = refl
    others true true true e h = absurd (true≢false h)

    by : (t : Bool) → odd_x r && odd_z r ≡ t → odd_x (cond t (without_S r) r) && odd_z (cond t (without_S r) r) ≡ false
    by true e = others (odd_x r) (odd_y r) (odd_z r) e (odd_pairs (norm_of_guided g))
    by false e = e

-- after H: z is even
pub past_H_parity : {r : Rest} {n : ℕ} → Guided r (suc n) → odd_x r && odd_z r ≡ false → odd_z (past_H r) ≡ false
unfolding past_H vector_without_H
past_H_parity {r} g apart = by (odd_y r && odd_z r) refl
  where
    x_even : (p q s : Bool) → q && s ≡ true → p && s ≡ false → p ≡ false
    x_even false q s e h = refl
    x_even true q true e h = absurd (true≢false h)
    x_even true false false e h = absurd (false≢true e)
    x_even true true false e h = absurd (false≢true e)

    z_even : (p q s : Bool) → q && s ≡ false → p && s ≡ false → differ p (differ q s) ≡ false → s ≡ false
    z_even p q false e h d = refl
    z_even false false true e h d = d
    z_even false true true e h d = e
    z_even true q true e h d = h

    by : (t : Bool) → odd_y r && odd_z r ≡ t → odd_z (cond t (without_H r) r) ≡ false
    by true e = x_even (odd_x r) (odd_y r) (odd_z r) e apart
    by false e = z_even (odd_x r) (odd_y r) (odd_z r) e apart (odd_pairs (norm_of_guided g))

-- T, or nothing: the exponent falls
pub past_T_guided : {r : Rest} {n : ℕ} → Guided r (suc n) → odd_z r ≡ false → Guided (past_T r) n
unfolding past_T
past_T_guided {r} {n} g z = by (odd_x r) (odd_y r) refl refl (ap (λ (b : Bool). differ (odd_x r) (differ (odd_y r) b)) (sym z) ∙ odd_pairs (norm_of_guided g))
  where
    taken : odd_x r ≡ true → odd_y r ≡ true → Guided (without_T r) n
    taken x y = record {
      unitary = unitary_of_isometry (T_isometry r (isometry_of_unitary g.unitary));
      scale = suc g.scale;
      led = T_led r g.scale n g.led (x ∙ sym y) (odd_together (norm_of_guided g) x y z) z;
    }

    by : (p q : Bool) → odd_x r ≡ p → odd_y r ≡ q → differ p (differ q false) ≡ false → Guided (cond (p && q) (without_T r) (lowered r)) n
    by false false x y e = record { unitary = g.unitary; scale = suc g.scale; led = lowered_led r g.scale n g.led x y z }
    by false true x y e = absurd (true≢false e)
    by true false x y e = absurd (true≢false e)
    by true true x y e = taken x y

pub past_syllable_guided : {r : Rest} {n : ℕ} → Guided r (suc n) → Guided (past_syllable r) n
unfolding past_syllable
past_syllable_guided g =
    let after_S = past_S_guided g in
    past_T_guided (past_H_guided after_S) (past_H_parity after_S (past_S_parity g))

-- ---- the letters in front of what is left
-- a text in front of the record n means the record m
pub record Restores (text : List ℕ) (n m : Matrix) : Type 0 where
  pub same : Same (times (matrix_of text) n) m

pub restores_nothing : (m : Matrix) → Restores [] m m
unfolding matrix_of
restores_nothing m = record { same = same_of_equal (identity_times m) }

pub restores_letter : (b : ℕ) (n m : Matrix) → Same (times (gate b) n) m → Restores (b ∷ []) n m
restores_letter b n m s = record { same = subst (λ (g : Matrix). Same (times g n) m) (sym (matrix_of_letter b)) s }

pub restores_append : {s t : List ℕ} {m n p : Matrix} → Restores s n m → Restores t p n → Restores (s ++ t) p m
restores_append {s} {t} {m} {n} {p} f g = record {
  same =
      same_trans
      (same_of_equal (ap (λ (q : Matrix). times q p) (matrix_of_append s t) ∙ times_assoc (matrix_of s) (matrix_of t) p))
      (same_trans (same_times_left (matrix_of s) g.same) f.same);
}

pub S_restores : (r : Rest) → Restores (S ∷ []) (without_S r).matrix r.matrix
unfolding gate
S_restores r = restores_letter S (without_S r).matrix r.matrix (same_of_equal (S_restored r))

pub H_restores : (r : Rest) → Restores (H ∷ []) (without_H r).matrix r.matrix
unfolding gate
H_restores r = restores_letter H (without_H r).matrix r.matrix (H_restored r)

pub T_restores : (r : Rest) → Restores (T ∷ []) (without_T r).matrix r.matrix
unfolding gate
T_restores r = restores_letter T (without_T r).matrix r.matrix (same_of_equal (T_restored r))

pub X_restores : (r : Rest) → Restores (X ∷ []) (without_X r).matrix r.matrix
unfolding gate
X_restores r = restores_letter X (without_X r).matrix r.matrix (same_of_equal (X_restored r))

pub lowered_restores : (r : Rest) → Restores [] (lowered r).matrix r.matrix
lowered_restores r = restores_nothing r.matrix

-- a letter where it is taken, or nothing
pub restores_either : (t : Bool) (b : ℕ) (r s : Rest) {m : Matrix} → Restores (b ∷ []) r.matrix m → Restores [] s.matrix m →
    Restores (if_taken t b) (cond t r s).matrix m
unfolding if_taken
restores_either true b r s f g = f
restores_either false b r s f g = g

pub syllable_restores : (r : Rest) → Restores (syllable_taken r) (past_syllable r).matrix r.matrix
unfolding syllable_taken past_syllable past_S past_H past_T
syllable_restores r =
    let s = past_S r in
    let h = past_H s in
    restores_append (restores_either (odd_x r && odd_z r) S (without_S r) r (S_restores r) (restores_nothing r.matrix))
    (restores_append (restores_either (odd_y s && odd_z s) H (without_H s) s (H_restores s) (restores_nothing s.matrix))
    (restores_either (odd_x h && odd_y h) T (without_T h) (lowered h) (T_restores h) (lowered_restores h)))
