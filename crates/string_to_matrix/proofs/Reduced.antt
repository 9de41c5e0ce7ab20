-- Dividing a record by √2: the elements divided at one exponent less mean the same, and a record that cannot be divided is
-- least. Assumes nothing.
use Prim.Native.Nat.{suc, ◌-◌, ◌<◌}
use native.Mathlib.Omega.{arith}
use mathlib.Core.Bool.{Bool, true, false, true≢false}
use mathlib.Core.Path.{◌≡◌, refl, sym, ◌∙◌}
use lib.Dec.{eqb}
use Rattle.std.proofs.lemmas.Bool.{eqb-true, eqb-false}
use Rattle.ring.specs.declared.Element.{Element}
use Rattle.ring.specs.Element.{root2, product}
use Rattle.ring.proofs.Root2.{root2_cancel}
use Rattle.ring.proofs.Divided.{over_root2, divides, even_pairs, pairs_of_divided, divided_of_pairs}
use Rattle.matrix.specs.declared.Matrix.{Matrix}
use Rattle.matrix.specs.Matrix.{matrix, Least}
use Rattle.matrix.proofs.Entries.{equal_entries}
use Rattle.matrix.proofs.Same.{same_trans, same_of_equal}
use Rattle.matrix.proofs.Unitary.{unitary_same}
use Rattle.matrix.proofs.Least.{Divisible, divided, same_divided, least_undivided, least_at_zero}
use Rattle.string_to_matrix.specs.Room.{Roomy, Reducible, Reduces, Lowered}

-- an element divided by √2 is one element
quotient_once : {x y : Element} → product root2 y ≡ x → over_root2 x ≡ y
quotient_once {x} {y} e = root2_cancel (over_root2 x) y (divides x (even_pairs x y e) ∙ sym e)

reducible_is_divisible : {m : Matrix} → Reducible m → Divisible m
reducible_is_divisible v = record {
  top_left = pairs_of_divided v.top_left;
  top_right = pairs_of_divided v.top_right;
  bottom_left = pairs_of_divided v.bottom_left;
  bottom_right = pairs_of_divided v.bottom_right;
}

-- the elements divided by √2, at one exponent less
pub lowered_by : {m : Matrix} {a b c d : Element} → Reducible m →
    product root2 a ≡ m.top.left → product root2 b ≡ m.top.right → product root2 c ≡ m.bottom.left → product root2 d ≡ m.bottom.right →
    Lowered m (matrix (m.exponent - 1) a b c d)
unfolding divided
lowered_by {m} v ea eb ec ed =
    let above = v.above_zero in
    let falls : m.exponent ≡ suc (m.exponent - 1) = omega arith in
    record {
      same =
          same_trans (same_divided (m.exponent - 1) m falls (reducible_is_divisible v))
          (same_of_equal (equal_entries refl (quotient_once ea) (quotient_once eb) (quotient_once ec) (quotient_once ed)));
      lower = falls;
    }

-- a test that finds whether a record can be divided finds whether it is least
divisible_is_reducible : {m : Matrix} → 0 < m.exponent → Divisible m → Reducible m
divisible_is_reducible above v = record {
  above_zero = above;
  top_left = divided_of_pairs v.top_left;
  top_right = divided_of_pairs v.top_right;
  bottom_left = divided_of_pairs v.bottom_left;
  bottom_right = divided_of_pairs v.bottom_right;
}

pub reduces : (t : Bool) {m : Matrix} → (t ≡ true → Reducible m) → (Reducible m → t ≡ true) → Reduces m t
reduces true found needed = found refl
reduces false {m} found needed = by (eqb m.exponent 0) refl
  where
    by : (t : Bool) → eqb m.exponent 0 ≡ t → Least m
    by true e = least_at_zero m (eqb-true m.exponent 0 e)
    by false e = least_undivided m (λ (v : Divisible m). true≢false (sym (needed (divisible_is_reducible (omega (arith, eqb-false m.exponent 0 e)) v))))

-- and it has the same room
pub roomy_lowered : {m r : Matrix} → Roomy m → Lowered m r → Roomy r
roomy_lowered roomy l = record { unitary = unitary_same l.same roomy.unitary; low = omega (arith, roomy.low, l.lower) }
