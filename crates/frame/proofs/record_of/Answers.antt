-- `frame::record_of` meets its contract: each word is read as a coefficient. Assumes nothing.
use Rattle.std.proofs.Common.{ap, ◌∙◌, rules}
use Rattle.coefficients.specs.Coefficients.{record_of}
use Rattle.std.specs.Int.{cast_signed}
use mir.Syntax.{w32}
use Rattle.frame.proofs.Mapped.{mapped}
use Rattle.frame.proofs.record_of.Goals as goal

pub returns : goal.returns
returns c =
    let each = mapped _ (λ w. cast_signed w32 w) 0 c.args.words c.map-list.ensures.items (search rules) (λ k y p q h called. search rules) in
    c.record_of.ensures ∙ ap (record_of c.args.exponent) each
