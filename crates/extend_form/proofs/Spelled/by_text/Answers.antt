-- The codes are no more than the letters before them, so there is room for one more.
use borrow.Author.Rules.{rules}
use mathlib.Core.Path.{sym, ◌∙◌}
use native.Mathlib.Numerals.{add-one}
use Rattle.lists.specs.List.{none}
use Rattle.lists.proofs.List.{every_grows, fails_after}
use Rattle.extend_form.proofs.Step.{extends_none}
use Rattle.extend_form.proofs.Stack.{room_left, taken_more}
use Rattle.extend_form.proofs.Kept.{kept_well_formed}
use Rattle.extend_form.proofs.Spelled.by_text.Goals as goal

pub loop-i-init : goal.loop-i-init
loop-i-init g c = record {
  letters = none;
  extended = record { well_formed = kept_well_formed _ c.self.inside.codes.items _ c.self.view_is c.self.invariant c.self.inside.tail.in_tails; extends = extends_none _ };
}

pub returns-then-not-is_letter : goal.returns-then-not-is_letter
returns-then-not-is_letter g c =
    fails_after 0 _ _ c.loop-i-test.true c.loop-i.invariant.letters
    (sym c.is_letter.ensures ∙ c.if-not-is_letter.true)

pub by_letter-requires : goal.by_letter-requires
by_letter-requires g c = (
  search rules,
  (
    room_left _ _ _ c.loop-i-test.true c.loop-i.invariant.extended c.requires.room,
    sym c.is_letter.ensures ∙ c.if-not-is_letter.false,
  ),
)

pub loop-i-preserved : goal.loop-i-preserved
loop-i-preserved g c =
    let more = c.loop-i-test.true in
    let letter = sym c.is_letter.ensures ∙ c.if-not-is_letter.false in
    record {
      letters = rw add-one (every_grows 0 _ _ more c.loop-i.invariant.letters letter);
      extended = taken_more _ _ more c.loop-i.invariant.extended c.by_letter.ensures;
    }
