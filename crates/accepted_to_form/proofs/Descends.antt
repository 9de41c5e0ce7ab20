-- On the way down a record stays guided and keeps its room: a step raises the exponent by at most one, and there are as
-- many steps as the vector's exponent. Assumes nothing.
use mathlib.Core.Bool.{Bool, true, false, cond, ◌&&◌}
use Prim.Native.Nat.{ℕ, suc, ◌+◌, ◌≤◌}
use native.Mathlib.Omega.{arith}
use Rattle.matrix.specs.declared.Matrix.{Matrix}
use Rattle.matrix.specs.Matrix.{Unitary}
use Rattle.complete.specs.declared.Rest.{Rest}
use Rattle.complete.specs.Vector.{Guided, vector_of}
use Rattle.complete.specs.Descent.{rest, without_S, without_H, without_T, lowered, record_without_S, record_without_H, record_without_T, odd_x, odd_y, odd_z, past_S, past_H, past_T, past_syllable, off_y, off_x}
use Rattle.complete.proofs.Syllable.{past_S_guided, past_H_guided, past_syllable_guided}
use Rattle.complete.proofs.Axis.{off_y_guided, off_x_guided}
use Rattle.complete.proofs.Complete.{guided_of_unitary}
use Rattle.turn.specs.Room.{RoomyRecord}
use Rattle.turn.proofs.Room.{roomy_record}
use Rattle.accepted_to_form.specs.Descends.{Descends}

roomy_rest : {r : Rest} {n : ℕ} → Guided r n → r.matrix.exponent ≤ 122 → RoomyRecord r.matrix
roomy_rest g k = roomy_record g.unitary k

-- whichever way a test turns out, the exponent stays below
exponent_either : (t : Bool) (r s : Rest) (k : ℕ) → r.matrix.exponent ≤ k → s.matrix.exponent ≤ k → (cond t r s).matrix.exponent ≤ k
exponent_either true r s k h l = h
exponent_either false r s k h l = l

exponent_past_S : (r : Rest) → (past_S r).matrix.exponent ≤ r.matrix.exponent
unfolding past_S record_without_S
exponent_past_S r = exponent_either (odd_x r && odd_z r) (without_S r) r r.matrix.exponent (omega arith) (omega arith)

exponent_past_H : (r : Rest) → (past_H r).matrix.exponent ≤ r.matrix.exponent + 1
unfolding past_H record_without_H
exponent_past_H r = exponent_either (odd_y r && odd_z r) (without_H r) r (r.matrix.exponent + 1) (omega arith) (omega arith)

exponent_past_T : (r : Rest) → (past_T r).matrix.exponent ≤ r.matrix.exponent
unfolding past_T record_without_T
exponent_past_T r = exponent_either (odd_x r && odd_y r) (without_T r) (lowered r) r.matrix.exponent (omega arith) (omega arith)

exponent_off_y : (r : Rest) → (off_y r).matrix.exponent ≤ r.matrix.exponent
unfolding off_y record_without_S
exponent_off_y r = exponent_either (odd_y r) (without_S r) r r.matrix.exponent (omega arith) (omega arith)

exponent_off_x : (r : Rest) → (off_x r).matrix.exponent ≤ r.matrix.exponent + 1
unfolding off_x record_without_H
exponent_off_x r = exponent_either (odd_x r) (without_H r) r (r.matrix.exponent + 1) (omega arith) (omega arith)

module _ {r : Rest} {n : ℕ} (d : Descends r n) where
  pub roomy : RoomyRecord r.matrix
  roomy = roomy_rest d.guided (omega (arith, d.room))

  pub roomy_past_S : RoomyRecord (past_S r).matrix
  roomy_past_S = roomy_rest (past_S_guided d.guided) (omega (arith, d.room, exponent_past_S r))

  pub roomy_past_H : RoomyRecord (past_H (past_S r)).matrix
  roomy_past_H =
      roomy_rest (past_H_guided (past_S_guided d.guided))
      (omega (arith, d.room, exponent_past_S r, exponent_past_H (past_S r)))

  pub roomy_off_y : RoomyRecord (off_y r).matrix
  roomy_off_y = roomy_rest (off_y_guided d.guided) (omega (arith, d.room, exponent_off_y r))

  pub roomy_off_x : RoomyRecord (off_x (off_y r)).matrix
  roomy_off_x =
      roomy_rest (off_x_guided (off_y_guided d.guided))
      (omega (arith, d.room, exponent_off_y r, exponent_off_x (off_y r)))

-- a step down
pub descends_syllable : {r : Rest} {n : ℕ} → Descends r (suc n) → Descends (past_syllable r) n
unfolding past_syllable
descends_syllable {r} d =
    let s = past_S r in
    let h = past_H s in
    record {
      guided = past_syllable_guided d.guided;
      room = omega (arith, d.room, exponent_past_S r, exponent_past_H s, exponent_past_T h);
    }

-- the start, within the exponent limit
pub descends_start : {m : Matrix} → Unitary m → m.exponent ≤ 40 → Descends (rest m (vector_of m)) (m.exponent + m.exponent)
descends_start unitary limit = record { guided = guided_of_unitary unitary; room = omega arith }
