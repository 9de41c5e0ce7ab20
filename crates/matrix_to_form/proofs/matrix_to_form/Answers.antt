-- `matrix_to_form::matrix_to_form` meets its contract: what is judged of the record decides. Assumes nothing.
use Rattle.std.proofs.lemmas.Result.{err_from_is_err_and}
use Rattle.matrix_to_form.specs.Promise.{refused_record, with_form}
use Rattle.matrix_to_form.proofs.matrix_to_form.Goals as goal

pub returns-in_err-judge : goal.returns-in_err-judge
returns-in_err-judge c =
    let err = err_from_is_err_and c.from_residual.result c.from_residual.ensures.1 in
    rw (err.1, err.2) (refused_record c.in_err-judge.ensures)

pub returns : goal.returns
returns c =
    let form = c.accepted_to_form.ensures in
    with_form c.in_ok-judge.ensures form.form form.same form.written
