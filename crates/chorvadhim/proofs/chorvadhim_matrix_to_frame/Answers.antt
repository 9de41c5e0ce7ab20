-- What the call says is legible, and is packed.
use Rattle.std.proofs.Common.{rules}
use Rattle.std.proofs.lemmas.Result.{MatchResult-weaker}
use Rattle.frame.specs.Calls.{MatrixToFrame}
use Rattle.chorvadhim.proofs.Answered.{may_pack, packed_by_cases}
use Rattle.chorvadhim.proofs.Equal.{of_equal}
use Rattle.chorvadhim.proofs.Legible.{matrix_to_frame_legible}
use Rattle.chorvadhim.proofs.chorvadhim_matrix_to_frame.Goals as goal

pub map_or_else-requires : goal.map_or_else-requires
map_or_else-requires c =
    let may = may_pack _ c.matrix_to_frame.result (matrix_to_frame_legible c.matrix_to_frame.ensures) in
    record { default_callable = may.0; f_callable = may.1 }

pub returns : goal.returns
returns c =
    let promised = of_equal MatrixToFrame c.record_of-m.ensures c.matrix_to_frame.ensures in
    record {
      answer = _;
      promised = promised;
      legible = matrix_to_frame_legible promised;
      says = packed_by_cases _ c.matrix_to_frame.result
          (MatchResult-weaker c.matrix_to_frame.result c.map_or_else.ensures (λ x says. search rules) (λ e says. says));
    }
