-- `compare::compare` meets its contract: a refusal is returned as soon as it is found, with its string; else the relation of the
-- forms is that of the strings. Assumes nothing.
use mathlib.Core.Path.{◌≡◌, subst}
use borrow.Author.Rules.{rules}
use Rattle.normalise.specs.Normalise.{Normalises}
use Rattle.compare.specs.Promise.{first_refused, second_refused, compared}
use Rattle.std.proofs.lemmas.Result.{err_from_is_err_and}
use Rattle.compare.specs.declared.Which.TheVariants.{Second}
use Rattle.compare.proofs.Mapped.{mapped_ok, mapped_err}
use Rattle.compare.proofs.Related.{related_carried}
use Rattle.compare.proofs.compare.Goals as goal

pub returns-in_default : goal.returns-in_default
returns-in_default c =
    first_refused (subst (Normalises _ _) c.unwrap_err.ensures c.normalise-first_normalised.ensures)

pub returns-in_err-map_err : goal.returns-in_err-map_err
returns-in_err-map_err c =
    let out = err_from_is_err_and c.from_residual.result c.from_residual.ensures.1 in
    let (refusal, was, maps) = mapped_err _ c.normalise.result _ _ c.in_err-map_err.was c.map_err.ensures.cases in
    let told : c.in_err-map_err.field-0.0 ≡ record { which = Second; refusal = refusal } = search rules in
    rw (out.1, out.2, told) (second_refused c.in-Ok.ensures.accepted (subst (Normalises _ _) was c.normalise.ensures))

pub returns : goal.returns
returns c =
    let first = c.in-Ok.ensures in
    let was = mapped_ok _ c.normalise.result _ _ c.in_ok-map_err.was c.map_err.ensures.cases in
    let second = subst (Normalises _ _) was c.normalise.ensures in
    compared first.accepted second.accepted (related_carried _ _ _ _ first.form.same second.form.same c.relate.ensures)
