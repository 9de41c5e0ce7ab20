-- `string_to_matrix::reducible` meets its contract: an exponent of 0 is least, and so is a record with an element that √2 does not
-- divide. Assumes nothing.
use Rattle.std.proofs.Common.{◌<◌, not, eq-eqb, ap, sym, ◌∙◌, true≢false, arith}
use Rattle.ring.specs.Divided.{Root2Divides}
use Rattle.string_to_matrix.specs.Room.{Reducible}
use Rattle.string_to_matrix.proofs.Reduced.{reduces}
use Rattle.string_to_matrix.proofs.reducible.Goals as goal
use Rattle.string_to_matrix.proofs.reducible.Goals.{then-m-ne0, else-m-ne0}

pub returns-then-divides_by_root2 : goal.returns-then-divides_by_root2
returns-then-divides_by_root2 c =
    let m = c.args.m in
    let top : (0 < m.exponent) × (Root2Divides m.top.left × Root2Divides m.top.right) =
    elim c.if-m-ne0.branch [
      | then-m-ne0 w ↦ (omega arith, w.divides_by_root2.ensures.0 (sym w.value-is ∙ c.if-divides_by_root2.true))
      | else-m-ne0 w ↦ absurd (true≢false (sym c.if-divides_by_root2.true ∙ w.value-is ∙ ap not (eq-eqb m.exponent 0 w.if-m-ne0.false)))
    ] in
    let bottom = c.divides_by_root2-then-divides_by_root2.ensures in
    reduces _
    (λ e. let b = bottom.0 e in record { above_zero = top.0; top_left = top.1.0; top_right = top.1.1; bottom_left = b.0; bottom_right = b.1 })
    (λ v. bottom.1 (v.bottom_left, v.bottom_right))

pub returns-else-divides_by_root2 : goal.returns-else-divides_by_root2
returns-else-divides_by_root2 c =
    reduces _ (λ e. absurd (true≢false (sym e ∙ c.if-divides_by_root2.false)))
    (λ (v : Reducible c.args.m). elim c.if-m-ne0.branch [
      | then-m-ne0 w ↦ w.value-is ∙ w.divides_by_root2.ensures.1 (v.top_left, v.top_right)
      | else-m-ne0 w ↦ absurd (omega (arith, v.above_zero))
    ])
