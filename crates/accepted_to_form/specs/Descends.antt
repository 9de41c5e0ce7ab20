-- A record on its way down: guided by its vector, with an exponent that leaves room in the machine's integers.
use Rattle.std.specs.Prelude.{ℕ, suc, ◌+◌, ◌≤◌}
use Rattle.complete.specs.declared.Rest.{Rest}
use Rattle.complete.specs.Vector.{Guided}

-- n steps above exponent 0: from k at most 40 and 2k steps, and a step raises k by at most one
pub record Descends (r : Rest) (n : ℕ) : Type 0 where
  pub guided : Guided r n
  pub room : r.matrix.exponent + n ≤ 120

-- some steps above it
pub record AboveZero (r : Rest) : Type 0 where
  pub below : ℕ
  pub descends : Descends r (suc below)
