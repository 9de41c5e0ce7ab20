-- What the call says is legible, and is packed.
use Rattle.matrix_to_form.specs.Promise.{MatrixToForm}
use Rattle.chorvadhim.proofs.Answered.{may_pack, packed_by_cases}
use Rattle.chorvadhim.proofs.Equal.{of_equal}
use Rattle.chorvadhim.proofs.Legible.{matrix_to_form_legible}
use Rattle.chorvadhim.proofs.chorvadhim_matrix_to_form.Goals as goal

pub map_or_else-requires : goal.map_or_else-requires
map_or_else-requires c =
    let may = may_pack _ c.matrix_to_form.result (matrix_to_form_legible c.matrix_to_form.ensures) in
    record { default_callable = may.0; f_callable = may.1 }

pub returns : goal.returns
returns c =
    let promised = of_equal MatrixToForm c.record_of-m.ensures c.matrix_to_form.ensures in
    record {
      answer = _;
      promised = promised;
      legible = matrix_to_form_legible promised;
      says = packed_by_cases _ c.matrix_to_form.result c.map_or_else.ensures;
    }
