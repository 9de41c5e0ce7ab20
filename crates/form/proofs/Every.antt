-- A test that is computed once for all numbers below a bound, and carried to each. Assumes nothing.
use Prim.Native.Nat.{ℕ, zero, suc, ◌<◌}
use native.Mathlib.Nat.{not-suc-le-zero}
use native.Mathlib.Decide.{dec_lt}
use native.Mathlib.Omega.{arith}
use mathlib.Core.Bool.{Bool, true, ◌&&◌}
use mathlib.Core.Path.{◌≡◌, subst}
use lib.Dec.{T as Holds}
use Rattle.matrix.proofs.Test.{both}

-- the test holds below n
unfoldable pub every : ℕ → (ℕ → Bool) → Bool
every zero test = true
every (suc n) test = test n && every n test

at_last : (n k : ℕ) (test : ℕ → Bool) → Holds (test n) → (k < n → Holds (test k)) → k < suc n → Dec (k < n) → Holds (test k)
at_last n k test last earlier below (yes less) = earlier less
at_last n k test last earlier below (no not_less) =
    let same : n ≡ k = omega arith in subst (λ (m : ℕ). Holds (test m)) same last

-- so it holds of each
pub every_at : (n : ℕ) (test : ℕ → Bool) → Holds (every n test) → (k : ℕ) → k < n → Holds (test k)
unfolding every
every_at zero test h k below = absurd (not-suc-le-zero below)
every_at (suc n) test h k below =
    let halves = both (test n) (every n test) h in
    at_last n k test halves.0 (every_at n test halves.1 k) below (dec_lt k n)
