-- `extend_form::Spelled::by_t` meets its contract: T is pushed where the tail has a head or no code is kept. Assumes nothing.
use borrow.Author.Rules.{rules}
use Rattle.extend_form.proofs.Kept.{kept_pushable}
use Rattle.extend_form.proofs.Spelled.by_t.Goals as goal
use Rattle.extend_form.proofs.Spelled.by_t.Goals.{then-head-gt0, else-head-gt0}

pub push_t-requires : goal.push_t-requires
push_t-requires g c = (
  search rules,
  (
    search rules,
    kept_pushable _ c.self.inside.codes.items _ _ c.self.view_is c.self.invariant c.self.inside.tail.in_tails c.head.ensures
        (elim c.if-head-gt0.branch [ then-head-gt0 w ↦ search rules | else-head-gt0 w ↦ search rules ]),
  ),
)
