-- `chorvadhim::chorvadhim_frame_to_matrix` meets its contract: what the call says is legible, and is packed. Assumes nothing.
use Rattle.chorvadhim.proofs.Legible.{frame_to_matrix_legible}
use Rattle.chorvadhim.proofs.chorvadhim_frame_to_matrix.Goals as goal

pub returned_word-requires : goal.returned_word-requires
returned_word-requires c = frame_to_matrix_legible c.frame_to_matrix.ensures

pub returns : goal.returns
returns c =
    let promised = c.frame_to_matrix.ensures in
    record { answer = _; promised = (promised, c.returned_word.ensures.lent_after); legible = frame_to_matrix_legible promised; says = c.returned_word.ensures.value }
