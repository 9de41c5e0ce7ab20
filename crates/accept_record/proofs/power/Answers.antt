-- `accept_record::power` meets its contract: 2^k for k up to 40 is not cut by the shift, and fits. Assumes nothing.
use mathlib.Core.Path.{◌≡◌, sym, ◌∙◌, ap, subst}
use Prim.Native.Nat.{ℕ, ◌*◌, ◌^◌, ◌%◌, ◌<◌, ◌≤◌}
use native.Mathlib.Nat.{one-mul, mod-eq_of_lt, lt_of_le_of_lt}
use lib.Dec.{lit<}
use lib.Pow.{pow_mono}
use lib.IntN.{pos}
use mir.Syntax.{w64}
use mir.Facts.{to_z_pos}
use Rattle.answer.specs.Limits.{exponent_limit}
use Rattle.accept_record.proofs.power.Goals as goal

module _ {k : ℕ} (h : k ≤ exponent_limit) where
  small : 2 ^ k < 2 ^ 63
  small = lt_of_le_of_lt (pow_mono h) (lit< tt)

  shifted : (1 * 2 ^ k) % 2 ^ 64 ≡ 2 ^ k
  shifted = ap (λ (n : ℕ). n % 2 ^ 64) (one-mul (2 ^ k)) ∙ mod-eq_of_lt (lt_of_le_of_lt (pow_mono h) (lit< tt))

pub returns : goal.returns
returns c =
    to_z_pos w64 (subst (λ (n : ℕ). n < 2 ^ 63) (sym (shifted c.requires)) (small c.requires))
    ∙ ap pos (shifted c.requires)
