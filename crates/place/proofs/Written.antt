-- Texts written on a page, one after the other: a text and then another are both in a row, and the room that a text leaves.
-- Assumes nothing.
use Prim.Native.Nat.{ℕ, ◌+◌, ◌≤◌}
use mathlib.Core.List.{List, [], ◌++◌}
use mathlib.Core.Path.{refl, ◌∙◌}
use lib.ListN.{length}
use Rattle.place.specs.declared.Page.{Page}
use Rattle.place.specs.Page.{HasRoom, Wrote}
use Rattle.place.proofs.Place.{placed_nothing, placed_more, placed_room}

pub wrote_nothing : (page : Page) → page.place ≤ length page.buffer.now → Wrote page [] page
wrote_nothing page h = record { same_buffer = refl; placed = placed_nothing page.place page.buffer.now h }

pub wrote_more : {page page' page'' : Page} {f g : List ℕ} → Wrote page f page' → Wrote page' g page'' → Wrote page (f ++ g) page''
wrote_more first second =
    record {
      same_buffer = second.same_buffer ∙ first.same_buffer;
      placed = placed_more first.placed second.placed;
    }

pub room_after : {page page' : Page} {f : List ℕ} (size rest : ℕ) → length f ≤ size → HasRoom page (size + rest) → Wrote page f page' →
    HasRoom page' rest
room_after size rest short room wrote = placed_room size rest short room wrote.placed
