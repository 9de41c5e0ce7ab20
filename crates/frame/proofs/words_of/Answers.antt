-- `frame::words_of` meets its contract: each coefficient fits a word. Assumes nothing.
use Rattle.std.proofs.Common.{refl, subst, get_or, ℤ, ℕ, ◌<◌, List, SFits, w32, lit<, ◌≡◌, length, ap, sym, ◌∙◌, pos, arith, rules}
use Rattle.std.specs.Int.{cast_unsigned}
use Rattle.std.specs.Array.{list_steps}
use Rattle.std.proofs.lemmas.Iterator.Adapters.{serves_from_places}
use Rattle.std.proofs.lemmas.Iterator.Consumers.{YieldsList-from_shown}
use Rattle.lists.proofs.List.{every_member}
use Rattle.matrix.specs.declared.Matrix.{Matrix}
use Rattle.coefficients.specs.Coefficients.{coefficients}
use Rattle.frame.specs.Frame.{words, InWords}
use Rattle.frame.proofs.Mapped.{mapped}
use Rattle.frame.proofs.Words.{in_word_fits, words_unsigned}
use Rattle.frame.proofs.words_of.Goals as goal

-- a coefficient of a record that fits words fits one
fits : (m : Matrix) (list : List ℤ) → list ≡ coefficients m → InWords (coefficients m) → (d : ℤ) (k : ℕ) → k < length list → SFits w32 (get_or list k d)
fits m list e all d k h = in_word_fits (every_member d (subst InWords (sym e) all) k h)

pub map-requires : goal.map-requires
map-requires c =
    let list = c.coefficients.result in
    let road = YieldsList-from_shown list_steps (λ x. x) (λ s. s) (λ s t e. ap length e) (λ s x t e. e) list in
    let each = λ (x : ℤ) (k : ℕ) (h : k < length list) (e : x ≡ get_or list k x).
    subst (SFits w32) (sym e) (fits c.args.m list c.coefficients.ensures c.requires x k h) in
    (lit< tt, (lit< tt, (lit< tt, serves_from_places road (λ x q r. refl) (λ x k h e. let f : SFits w32 x = each x k h e in search rules))))

pub returns : goal.returns
returns c =
    let list = c.coefficients.result in
    let sixteen : length list ≡ 16 = search rules in
    mapped _ (λ z. cast_unsigned w32 z) (pos 0) list c.map.ensures.items sixteen
    (λ k y p q h called. let f : SFits w32 (get_or list k (pos 0)) = fits c.args.m list c.coefficients.ensures c.requires (pos 0) k (omega arith) in search rules)
    ∙ words_unsigned list ∙ ap words c.coefficients.ensures
