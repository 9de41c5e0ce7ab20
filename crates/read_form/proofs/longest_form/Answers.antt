-- `read_form::longest_form` meets its contract, by the two answers of `starts_with`. Assumes nothing.
use Rattle.std.proofs.Common.{◌≡◌, ◌≤◌, [], ◌∷◌, length, take, arith, rules}
use Rattle.matrix.specs.Letter.{T}
use Rattle.read_form.specs.Part.{NoFront}
use Rattle.read_form.proofs.Taking.{to_the_end}
use Rattle.read_form.proofs.Rests.{rest_fits, longest_after_front, longest_without_front}
use Rattle.read_form.proofs.longest_form.Goals as goal

pub overflow_add-result-then-starts_with : goal.overflow_add-result-then-starts_with
overflow_add-result-then-starts_with c =
    let inside : 1 ≤ length c.args.text.now = search rules in
    record { fits = omega (arith, (rest_fits NoFront c.args.text.now 1 _ (omega arith) inside c.longest_rest-rest.ensures).1) }

pub returns-then-starts_with : goal.returns-then-starts_with
returns-then-starts_with c =
    let front : take 1 c.args.text.now ≡ T ∷ [] = search rules in
    longest_after_front _ _ front (rw to_the_end at c.longest_rest-rest.ensures)

pub returns-else-starts_with : goal.returns-else-starts_with
returns-else-starts_with c = longest_without_front _ _ (search rules) c.longest_rest.ensures
