-- `string_to_matrix::string_to_matrix` meets its contract: the refusals of the string, then 8 where the form holds many T's, and else
-- what the form gives. Assumes nothing.
use native.Mathlib.Omega.{arith}
use mathlib.Core.Path.{sym}
use lib.Seq.{length-take-le}
use Rattle.string_to_matrix.proofs.Squeezed.{formed, formed_few}
use Rattle.string_to_matrix.proofs.string_to_matrix.Goals as goal

pub slice_bounds-form-end : goal.slice_bounds-form-end
slice_bounds-form-end c = let f = formed c.in_ok-figures.ensures in omega (arith, f.fits)

pub slice_bounds-of_form-end : goal.slice_bounds-of_form-end
slice_bounds-of_form-end c = let f = formed c.in_ok-figures.ensures in sym (length-take-le _ _ (omega (arith, f.fits)))

pub of_form-requires : goal.of_form-requires
of_form-requires c = let few = formed_few c.in_ok-figures.ensures (omega arith) in record { form = few.0; form_bound = few.1 }
