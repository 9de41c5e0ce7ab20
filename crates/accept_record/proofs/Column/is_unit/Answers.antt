-- `accept_record::Column::is_unit` meets its contract: a column times its own conjugate has the sums of the squared sizes for its
-- first two coefficients, which fit, so that equal bits are equal numbers. Assumes nothing.
use mathlib.Core.Path.{sym, ◌∙◌, ap, subst}
use Prim.Native.Nat.{◌^◌}
use borrow.Author.Tests.{eqb-true, eq-eqb}
use lib.Dec.{lit<}
use mir.Syntax.{w64}
use mir.Val.{of_z}
use mir.Facts.{sfits_lit}
use Rattle.ring.specs.declared.Element.{Element}
use Rattle.ring.specs.Bounds.{Small}
use Rattle.ring.proofs.Bounds.{bounded_fits, same_bits}
use Rattle.matrix.proofs.Unitary.{column_sizes}
use Rattle.accept_record.proofs.Sizes.{small_column_product}
use Rattle.accept_record.proofs.Column.is_unit.Goals as goal

pub returns-then-size-power : goal.returns-then-size-power
returns-then-size-power c =
    let x = c.args.self in
    let sizes = c.product-size.ensures ∙ column_sizes x.top x.bottom in
    let small =
    subst (Small (2 ^ 61)) (sym c.product-size.ensures) (small_column_product x.top_small x.bottom_small x.top_small x.bottom_small) in (
      λ e.
          record {
            whole = sym (ap (λ (x : Element). x.a0) sizes) ∙ same_bits (bounded_fits small.a0 (lit< tt)) c.ranges.power c.if-size-power.true;
            root2 = sym (ap (λ (x : Element). x.a1) sizes) ∙ same_bits (bounded_fits small.a1 (lit< tt)) (sfits_lit tt) (eqb-true _ _ e);
          },
      λ u. eq-eqb _ _ (ap (of_z w64) (ap (λ (x : Element). x.a1) sizes ∙ u.root2)),
    )

pub returns-else-size-power : goal.returns-else-size-power
returns-else-size-power c =
    let sizes = c.product-size.ensures ∙ column_sizes c.args.self.top c.args.self.bottom in (
      λ e. absurd (c.if-size-power.false (eqb-true _ _ e)),
      λ u. absurd (c.if-size-power.false (ap (of_z w64) (ap (λ (x : Element). x.a0) sizes ∙ u.whole))),
    )
