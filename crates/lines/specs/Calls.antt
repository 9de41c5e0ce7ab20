-- What answers a line is called with it, and with what is still to be written.
use Rattle.std.specs.Prelude.{ℕ, List, ◌≡◌}
use Rattle.std.specs.Fn.{Called}
use denote.Ref.{Bor, MutBor}
use denote.Param.Members.{Mut}
use Rattle.arrayvec.specs.ArrayVec.{ArrayVec}

-- a call of f at a line, with what is pending before it, may leave f' and what is pending then
pub record CalledAtLine {F : Type 0} (g : Mut F (Bor (List ℕ) × (MutBor (ArrayVec ℕ) × Unit {0})) (Unit {0} × (MutBor (ArrayVec ℕ) × Unit {0}))) (f : F) (line pending : List ℕ) (f' : F) (left : List ℕ) : Type 0 where
  pub given : Bor (List ℕ)
  pub shows : given.now ≡ line
  pub before : MutBor (ArrayVec ℕ)
  pub stood : before.now.items ≡ pending
  pub after : MutBor (ArrayVec ℕ)
  pub stands : after.now.items ≡ left
  pub called : Called g f (given, (before, tt)) (tt, (after, tt)) f'
