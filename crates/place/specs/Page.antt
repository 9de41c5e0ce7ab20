-- A lent buffer that is written from its start on.
use Rattle.std.specs.Prelude.{ℕ, ◌+◌, ◌≤◌, List, ◌≡◌, length}
use Rattle.place.specs.declared.Page.{Page}
use Rattle.place.specs.Place.{Placed}

-- there is room for so many bytes more
abbrev pub HasRoom : Page → ℕ → Type 0
HasRoom page size = page.place + size ≤ length page.buffer.now

-- a text is written on a page, after what stands there: the buffer is the same one
pub record Wrote (page : Page) (text : List ℕ) (page' : Page) : Type 0 where
  pub same_buffer : page'.buffer.ghost_name ≡ page.buffer.ghost_name
  pub placed : Placed page.place text page.buffer.now page'.place page'.buffer.now
