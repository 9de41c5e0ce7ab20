-- `frame::are_digits` meets its contract: the fold keeps whether all bytes so far are digits. Assumes nothing.
use Rattle.std.proofs.Common.{◌≡◌, true, ◌∙◌, sym, rules}
use borrow.Author.Tests.{tests}
use Rattle.std.specs.List.{fold}
use Rattle.std.proofs.lemmas.Iterator.{YieldsList-from_slice}
use Rattle.std.proofs.lemmas.Iterator.Consumers.{fold_from_yields_List}
use Rattle.frame.proofs.Digits.{still_digits, digits_by_fold, fold_of_digits}
use Rattle.frame.proofs.are_digits.Goals as goal

pub returns : goal.returns
returns c =
    let folded : c.fold.result ≡ fold still_digits true c.args.text.now =
    fold_from_yields_List _ still_digits true c.fold.result c.fold.ensures.ran (YieldsList-from_slice c.args.text.now cc) (λ a x b q k. search (rules, tests)) in
    (λ e. digits_by_fold _ (sym folded ∙ e), λ all. folded ∙ fold_of_digits all)
