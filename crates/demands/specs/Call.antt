-- A unit, as what it says and what it leaves in the buffer, and that it keeps a promise for every input.
use Rattle.std.specs.Prelude.{ℕ, List}
use Rattle.answer.specs.declared.Figures.{Figures}
use Rattle.answer.specs.Refusal.{Said}
use Rattle.demands.specs.Input.{Input, Promised}

-- what a unit says of an input and a lent buffer, and the buffer at exit
pub record Call : Type 0 where
  pub answer : Input → List ℕ → Said Figures
  pub after : Input → List ℕ → List ℕ

-- the unit keeps the promise, whatever is fed
pub record Keeps (call : Call) : Type 0 where
  pub promised : (i : Input) (before : List ℕ) → Promised i before (call.answer i before) (call.after i before)
