-- A unitary record leaves room where its exponent is low, what is turned back leaves the room that it had, and a sum with a
-- negation is a difference. Assumes nothing.
use mathlib.Core.Path.{◌≡◌, refl, sym, ◌∙◌, ap, subst}
use Prim.Native.Nat.{ℕ, ◌≤◌}
use native.Mathlib.Omega.{arith}
use Rattle.ring.specs.declared.Element.{Element}
use Rattle.ring.specs.Element.{sum, negation}
use Rattle.ring.specs.Bounds.{Small}
use Rattle.ring.proofs.Bounds.{bounded_negation}
use Rattle.matrix.specs.declared.Matrix.{Matrix}
use Rattle.matrix.specs.Matrix.{Unitary}
use Rattle.matrix.proofs.Small.{unitary_is_small}
use Rattle.complete.specs.Descent.{turned_back, difference, record_without_T}
use Rattle.complete.proofs.Turn.{difference_sum}
use Rattle.turn.specs.Room.{RoomyRecord}

pub roomy_record : {m : Matrix} → Unitary m → m.exponent ≤ 122 → RoomyRecord m
roomy_record u low =
    let small = unitary_is_small 61 u low in
    record {
      exponent = omega arith;
      top_left = small.top_left;
      top_right = small.top_right;
      bottom_left = small.bottom_left;
      bottom_right = small.bottom_right;
    }

-- an element turned back is as small as it was
pub small_turned_back : {bound : ℕ} {x r : Element} → r ≡ turned_back x → Small bound x → Small bound r
unfolding turned_back
small_turned_back {bound} e s =
    subst (Small bound) (sym e) (record { a0 = s.a1; a1 = s.a2; a2 = s.a3; a3 = bounded_negation s.a0 })

-- a record with its bottom row turned back has the room that it had
pub roomy_without_T : {m r : Matrix} → r ≡ record_without_T m → RoomyRecord m → RoomyRecord r
unfolding record_without_T
roomy_without_T e room =
    subst RoomyRecord (sym e) (record {
      exponent = room.exponent;
      top_left = room.top_left;
      top_right = room.top_right;
      bottom_left = small_turned_back refl room.bottom_left;
      bottom_right = small_turned_back refl room.bottom_right;
    })

-- a sum with the negation is the difference
pub sum_of_negation : (x y : Element) {n r : Element} → n ≡ negation y → r ≡ sum x n → r ≡ difference x y
sum_of_negation x y e f = f ∙ ap (sum x) e ∙ sym (difference_sum x y)
