-- `accept_record::is_unitary` meets its contract: the four equations of the columns and the four of their product are the eight
-- equations. Assumes nothing.
use mathlib.Core.Path.{◌≡◌, sym, ◌∙◌, ap, subst}
use mathlib.Core.Bool.{Bool, true}
use mathlib.Core.Logic.{◌↔◌}
use Prim.Native.Nat.{ℕ, ◌^◌, ◌≤◌}
use native.Mathlib.Nat.{le_trans}
use lib.Dec.{lit≤}
use lib.IntN.{ℤ, pos}
use lib.Pow.{pow_mono}
use Rattle.ring.specs.declared.Element.{Element}
use Rattle.ring.specs.Element.{nothing, sum, product, conjugate}
use Rattle.ring.proofs.Bounds.{stored, kept}
use Rattle.ring.proofs.Equal.{equal_told}
use Rattle.answer.specs.Limits.{exponent_limit}
use Rattle.accept_record.specs.Column.{UnitColumn}
use Rattle.accept_record.proofs.Sizes.{small_entries}
use Rattle.accept_record.proofs.is_unitary.Goals as goal

-- 2^k is handed on as it is
handed : {k : ℕ} {r : ℤ} → k ≤ exponent_limit → r ≡ pos (2 ^ k) → stored r ≡ pos (2 ^ k)
handed h e = ap stored e ∙ kept (record { size = le_trans (pow_mono h) (lit≤ tt) })

-- what the test of a column says, with 2^k for the number handed on
column : {r : Bool} {top bottom : Element} {n p : ℤ} → n ≡ p → r ≡ true ↔ UnitColumn top bottom n → r ≡ true ↔ UnitColumn top bottom p
column {r} {top} {bottom} e iff = subst (λ (z : ℤ). r ≡ true ↔ UnitColumn top bottom z) e iff

pub invariant_of-left : goal.invariant_of-left
invariant_of-left c = let e = small_entries c.args.m c.requires in record { top_small = e.top_left; bottom_small = e.bottom_left }

pub invariant_of-right : goal.invariant_of-right
invariant_of-right c = let e = small_entries c.args.m c.requires in record { top_small = e.top_right; bottom_small = e.bottom_right }

pub returns-then-is_unit-2 : goal.returns-then-is_unit-2
unfolding nothing
returns-then-is_unit-2 c =
    let product_is : let m = c.args.m in
    sum (product m.top.left (conjugate m.top.right)) (product m.bottom.left (conjugate m.bottom.right))
    ≡ c.product.result = sym c.product.ensures in
    let power_is = handed c.requires.exponent c.power-two_to_k.ensures in
    let l = (column power_is c.is_unit.ensures).0 c.if-is_unit.true in
    let r = (column power_is c.is_unit-then-is_unit.ensures).0 c.if-is_unit-2.true in
    let none = equal_told c.product.result nothing c.eq.ensures in (
      λ e.
          record {
            left_whole = l.whole;
            left_root2 = l.root2;
            right_whole = r.whole;
            right_root2 = r.root2;
            columns = product_is ∙ none.0 e;
          },
      λ u. none.1 (sym product_is ∙ u.columns),
    )
