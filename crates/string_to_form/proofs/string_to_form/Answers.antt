-- `string_to_form::string_to_form` meets its contract: a string that is refused leaves the buffer alone, and the form that codes
-- and a tail spell is put there. Assumes nothing.
use native.Mathlib.Omega.{arith}
use Rattle.std.proofs.lemmas.Result.{err_from_is_err_and}
use Rattle.string_to_form.specs.Promise.{refused_string, with_form}
use Rattle.string_to_form.proofs.string_to_form.Goals as goal

pub returns-in_err-normalise : goal.returns-in_err-normalise
returns-in_err-normalise c =
    let err = err_from_is_err_and c.from_residual.result c.from_residual.ensures.1 in
    rw (err.1, err.2) (refused_string c.in_err-normalise.ensures)

pub write_form-requires : goal.write_form-requires
write_form-requires c = let held = c.in_ok-normalise.ensures in omega (arith, held.few)

pub returns : goal.returns
returns c =
    let held = c.in_ok-normalise.ensures in
    with_form held.accepted held.form c.write_form.ensures
