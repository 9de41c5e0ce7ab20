-- What the call says is legible, and is packed.
use Rattle.chorvadhim.proofs.Answered.{may_pack_verdict, verdict_packed_by_cases}
use Rattle.chorvadhim.proofs.Legible.{compare_legible}
use Rattle.chorvadhim.proofs.chorvadhim_compare.Goals as goal

pub map_or_else-requires : goal.map_or_else-requires
map_or_else-requires c =
    let may = may_pack_verdict c.compare.result (compare_legible c.compare.ensures) in
    record { default_callable = may.0; f_callable = may.1 }

pub returns : goal.returns
returns c =
    let promised = c.compare.ensures in
    record {
      answer = _;
      promised = promised;
      legible = compare_legible promised;
      says = verdict_packed_by_cases c.compare.result c.map_or_else.ensures;
    }
