-- The lines end where no further one comes, unless writing fails; and of the turns that are left. Assumes nothing.
use Prim.Native.Nat.{ℕ, suc, ◌+◌, ◌-◌, ◌^◌, ◌<◌}
use native.Mathlib.Omega.{arith}
use mathlib.Core.Bool.{false}
use mathlib.Core.List.{List}
use mathlib.Core.Path.{◌≡◌}
use Rattle.std.specs.Prelude.{Result, Ok, Err}
use Rattle.lines.specs.Rest.{Rest}
use Rattle.lines.specs.Line.{Comes, Answers}

pub ended :
    {held most room turns : ℕ} {E F : Type 0} (Gives : F → (line pending : List ℕ) → F → List ℕ → Type 0) {input rest : Rest} {line pending left : List ℕ} {f : F} (result : Result (Unit {0}) E) →
    Comes held most room {E = E} input pending (Ok false) line rest left → Answers held most room Gives (suc turns) input pending f result
ended Gives (Ok tt) none = Answers.over none
ended Gives (Err error) none = Answers.unwritten none

-- before the last turn one is left, and those after it
pub turn_left : (n : ℕ) → n < 2 ^ 64 - 1 → 2 ^ 64 - 1 - n ≡ suc (2 ^ 64 - 1 - (n + 1))
turn_left n before = omega arith
