-- What the call says is legible, and is packed.
use Rattle.chorvadhim.proofs.Answered.{may_pack, packed_by_cases}
use Rattle.chorvadhim.proofs.Legible.{frame_to_form_legible}
use Rattle.chorvadhim.proofs.chorvadhim_frame_to_form.Goals as goal

pub map_or_else-requires : goal.map_or_else-requires
map_or_else-requires c =
    let may = may_pack _ c.frame_to_form.result (frame_to_form_legible c.frame_to_form.ensures) in
    record { default_callable = may.0; f_callable = may.1 }

pub returns : goal.returns
returns c =
    let promised = c.frame_to_form.ensures in
    record {
      answer = _;
      promised = promised;
      legible = frame_to_form_legible promised;
      says = packed_by_cases _ c.frame_to_form.result c.map_or_else.ensures;
    }
