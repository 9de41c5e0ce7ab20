-- Phases between letter lists of any length: a phase respects equality in meaning, a pair has one phase at most, and so one
-- answer at most is right; seen from the other side the phase j is 8 − j. Assumes nothing.
use Prim.Native.Nat.{ℕ, ◌+◌, ◌*◌, ◌-◌, ◌%◌}
use native.Mathlib.Omega.{arith}
use mathlib.Core.List.{List, ◌++◌, append_assoc, append-nil}
use mathlib.Core.Path.{◌≡◌, refl, sym, ap, subst, subst₂, ◌∙◌}
use lib.ListN.{replicate, replicate-append-replicate}
use Rattle.matrix.specs.Matrix.{times, Same}
use Rattle.matrix.specs.Letter.{W, Letters, matrix_of}
use Rattle.matrix.proofs.Times.{matrix_of_append}
use Rattle.matrix.proofs.Same.{same_sym, same_trans}
use Rattle.matrix.proofs.Unitary.{unitary_matrix_of}
use Rattle.matrix.proofs.Adjoint.{unitary_cancel}
use Rattle.form.specs.Tail.{tail_text, head_text}
use Rattle.extend_form.proofs.Append.{same_before}
use Rattle.unique.proofs.Tails.{tails_mean_different}
use Rattle.compare.specs.Promise.{Verdict, same, phase, different, refused, phased, PhaseApart, Related, equal, apart, unlike}
use Rattle.compare.proofs.Phase.{Ws_are_a_phase, phased_round, with_Ws, phased_text}

-- no phase is equality
no_phase : (b : List ℕ) → phased 0 (matrix_of b) ≡ matrix_of b
no_phase b = sym (Ws_are_a_phase b 0) ∙ ap matrix_of (append-nil b)

apart_by_none : (a b : List ℕ) → Same (matrix_of a) (matrix_of b) → PhaseApart a b 0
apart_by_none a b s = subst (Same (matrix_of a)) (sym (no_phase b)) s

pub equal_by_none : (a b : List ℕ) → PhaseApart a b 0 → Same (matrix_of a) (matrix_of b)
equal_by_none a b s = subst (Same (matrix_of a)) (no_phase b) s

-- a phase respects equality in meaning
phase_respects : (a b : List ℕ) (j : ℕ) → Same (matrix_of a) (matrix_of b) → Same (phased j (matrix_of a)) (phased j (matrix_of b))
phase_respects a b j s = subst₂ Same (Ws_are_a_phase a j) (Ws_are_a_phase b j) (same_before a b (replicate j W) s)

module _ (a b a' b' : List ℕ) (left : Same (matrix_of a) (matrix_of a')) (right : Same (matrix_of b) (matrix_of b')) where
  -- so letter lists of the same matrices are apart by the same phases
  phase_carried : (j : ℕ) → PhaseApart a b j → PhaseApart a' b' j
  phase_carried j s = same_trans (same_sym left) (same_trans s (phase_respects b b' j right))

  phase_carried_back : (j : ℕ) → PhaseApart a' b' j → PhaseApart a b j
  phase_carried_back j s = same_trans left (same_trans s (phase_respects b' b j (same_sym right)))

  -- and stand to each other alike
  pub related_carried : {v : Verdict} → Related a b v → Related a' b' v
  related_carried (equal s) = equal (same_trans (same_sym left) (same_trans s right))
  related_carried (apart {j = j} low high s) = apart low high (phase_carried j s)
  related_carried (unlike none) = unlike (λ j s. none j (phase_carried_back j s))

-- ---- one phase at most: a text is cancelled on the left of a tail of W's
tail_of_Ws : (b : List ℕ) (j : ℕ) → phased j (matrix_of b) ≡ times (matrix_of b) (matrix_of (tail_text (with_Ws 0 j)))
unfolding tail_text head_text
tail_of_Ws b j =
    ap (λ (t : List ℕ). phased j (matrix_of t)) (sym (append-nil b)) ∙ phased_text b 0 j ∙ matrix_of_append b (tail_text (with_Ws 0 j))

pub phase_once : (a b : List ℕ) (i j : ℕ) → Letters b → PhaseApart a b i → PhaseApart a b j → i % 8 ≡ j % 8
phase_once a b i j letters s t =
    let cancelled = unitary_cancel (unitary_matrix_of b letters) (subst₂ Same (tail_of_Ws b i) (tail_of_Ws b j) (same_trans (same_sym s) t)) in
    omega (arith, tails_mean_different (with_Ws 0 i) (with_Ws 0 j) (omega arith) (omega arith) cancelled)

-- two answers on a pair of letter lists that are both right are equal
pub related_once : {a b : List ℕ} {v w : Verdict} → Letters b → Related a b v → Related a b w → v ≡ w
related_once letters (equal s) (equal t) = refl
related_once {a} {b} letters (equal s) (apart {j = j} low high t) = absurd (omega (arith, phase_once a b 0 j letters (apart_by_none a b s) t))
related_once {a} {b} letters (equal s) (unlike none) = absurd (none 0 (apart_by_none a b s))
related_once {a} {b} letters (apart {j = i} low high s) (equal t) = absurd (omega (arith, phase_once a b i 0 letters s (apart_by_none a b t)))
related_once {a} {b} letters (apart {j = i} low high s) (apart {j = j} low' high' t) = ap phase (omega (arith, phase_once a b i j letters s t))
related_once letters (apart {j = j} low high s) (unlike none) = absurd (none j s)
related_once {a} {b} letters (unlike none) (equal t) = absurd (none 0 (apart_by_none a b t))
related_once letters (unlike none) (apart {j = j} low high t) = absurd (none j t)
related_once letters (unlike none) (unlike none') = refl

-- ---- seen from the other side
phase_back : (a b : List ℕ) (i j : ℕ) → (j + i) % 8 ≡ 0 → PhaseApart a b j → PhaseApart b a i
phase_back a b i j round s =
    same_sym (subst (Same (phased i (matrix_of a))) whole (phase_respects a (b ++ replicate j W) i (subst (Same (matrix_of a)) (sym (Ws_are_a_phase b j)) s)))
  where
    joined : (b ++ replicate j W) ++ replicate i W ≡ b ++ replicate (j + i) W
    joined = append_assoc b (replicate j W) (replicate i W) ∙ ap (λ (t : List ℕ). b ++ t) (replicate-append-replicate j i W)

    whole : phased i (matrix_of (b ++ replicate j W)) ≡ matrix_of b
    whole =
        sym (Ws_are_a_phase (b ++ replicate j W) i) ∙ ap matrix_of joined ∙ Ws_are_a_phase b (j + i)
        ∙ phased_round (j + i) 0 (matrix_of b) round ∙ no_phase b

-- what is said of a pair of accepted strings, said of it in the other order
abbrev pub back : Verdict → Verdict
back same = same
back (phase j) = phase (8 - j)
back different = different
back (refused which number place) = refused which number place

pub related_back : {a b : List ℕ} {v : Verdict} → Related a b v → Related b a (back v)
related_back (equal s) = equal (same_sym s)
related_back {a} {b} (apart {j = j} low high s) = apart {j = 8 - j} (omega arith) (omega arith) (phase_back a b (8 - j) j (omega arith) s)
related_back {a} {b} (unlike none) = unlike (λ j s. none (7 * j) (phase_back b a (7 * j) j (omega arith) s))
