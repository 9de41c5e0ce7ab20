-- `write_form::write_head` meets its contract: one, two or no letters are put, by the head. Assumes nothing.
use borrow.Author.Rules.{rules}
use Prim.Native.Nat.{ℕ, zero, suc}
use native.Mathlib.Omega.{arith}
use mathlib.Core.List.{[], ◌∷◌}
use mathlib.Core.Path.{◌≡◌, refl}
use Rattle.matrix.specs.Letter.{H, S}
use Rattle.form.specs.Tail.{head_text}
use Rattle.place.proofs.Written.{wrote_nothing}
use Rattle.write_form.proofs.write_head.Goals as goal

SH_text : (head : ℕ) → (head ≡ 0 → ⊥) → (head ≡ 1 → ⊥) → head_text head ≡ S ∷ H ∷ []
unfolding head_text
SH_text zero some more = absurd (some refl)
SH_text (suc zero) some more = absurd (more refl)
SH_text (suc (suc head)) some more = refl

pub put-requires : goal.put-requires
unfolding head_text
put-requires c = rw c.in-1.is at c.requires

pub put_text-requires : goal.put_text-requires
put_text-requires c = rw (SH_text c.args.head (search rules) (search rules)) at c.requires

pub returns-in-0 : goal.returns-in-0
unfolding head_text
returns-in-0 c = rw c.in-0.is (wrote_nothing _ (omega arith))

pub returns-in-1 : goal.returns-in-1
unfolding head_text
returns-in-1 c = rw c.in-1.is c.put.ensures

pub returns-in_default : goal.returns-in_default
returns-in_default c = rw (SH_text c.args.head (search rules) (search rules)) c.put_text.ensures
