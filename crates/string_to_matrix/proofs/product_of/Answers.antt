-- `string_to_matrix::product_of` meets its contract. The loop's invariant: the record is the matrix of the last letters, those that are
-- done. Assumes nothing.
use Rattle.std.proofs.Common.{◌≡◌, ℕ, ◌+◌, ◌-◌, ◌<◌, List, length, get_or, sym, ap, ap₂, subst, ◌∙◌, arith}
use Rattle.matrix.specs.declared.Matrix.{Matrix}
use Rattle.matrix.specs.Matrix.{times}
use Rattle.matrix.specs.Letter.{gate, matrix_of}
use Rattle.form.proofs.Letters.{form_letter_at}
use Rattle.string_to_matrix.specs.Room.{Roomy}
use Rattle.string_to_matrix.proofs.Ending.{ending, ending_roomy, ending_none, ending_all, ending_more}
use Rattle.string_to_matrix.proofs.product_of.Goals as goal

pub loop-done-init : goal.loop-done-init
unfolding matrix_of
loop-done-init c = c.identity-product.ensures ∙ ap matrix_of (sym (ending_none c.args.form.now))

pub invariant_of-prefixed : goal.invariant_of-prefixed
invariant_of-prefixed c =
    let l = c.loop-done in
    record { roomy = subst Roomy (sym l.invariant) (ending_roomy l.done c.requires.form c.requires.form_bound) }

pub invariant_of-result : goal.invariant_of-result
invariant_of-result c =
    let l = c.loop-done in
    record { roomy = subst Roomy (sym l.invariant) (ending_roomy l.done c.requires.form c.requires.form_bound) }

pub prefixed-product-requires : goal.prefixed-product-requires
prefixed-product-requires c = form_letter_at c.requires.form _ (omega (arith, c.loop-done-test.true))

-- a letter more on the left, however its place is worked out
one_more : (f : List ℕ) (n i : ℕ) {m r : Matrix} → n < length f → m ≡ matrix_of (ending n f) → r ≡ times (gate (get_or f i 0)) m →
    i ≡ length f - (n + 1) → r ≡ matrix_of (ending (n + 1) f)
one_more f n i more is e place =
    e ∙ ap₂ (λ (b : ℕ) (m : Matrix). times (gate b) m) (ap (λ (k : ℕ). get_or f k 0) place) is ∙ ending_more f n more

pub loop-done-preserved : goal.loop-done-preserved
loop-done-preserved c =
    let l = c.loop-done in
    one_more c.args.form.now l.done _ c.loop-done-test.true l.invariant c.prefixed-product.ensures (omega (arith, c.loop-done-test.true))

pub returns : goal.returns
returns c =
    let l = c.loop-done in
    l.invariant ∙ ap matrix_of (ending_all c.args.form.now l.done c.loop-done-test.false)
