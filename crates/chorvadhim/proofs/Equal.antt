-- What is promised of a record is promised of its equal. Assumes nothing.
use Prim.Native.Nat.{ℕ}
use mathlib.Core.List.{List}
use mathlib.Core.Path.{◌≡◌, subst}
use Rattle.matrix.specs.declared.Matrix.{Matrix}
use Rattle.answer.specs.Refusal.{Said}

pub of_equal :
    {A : Type 0} (Promise : Matrix → List ℕ → Said A → List ℕ → Type 0) {m n : Matrix} {before after : List ℕ} {answer : Said A} →
    m ≡ n → Promise m before answer after → Promise n before answer after
of_equal Promise {before = before} {after = after} {answer = answer} = subst (λ (m : Matrix). Promise m before answer after)
