-- A text written into a lent buffer at a place, and the place after it: what the steps of writing a form leave.
use Rattle.std.specs.Prelude.{ℕ, ◌+◌, ◌≤◌, List, ◌++◌, ◌≡◌, length, take, drop}

-- the buffer with a text at a place, all other bytes as before
unfoldable pub put_at : ℕ → List ℕ → List ℕ → List ℕ
put_at place f before = take place before ++ (f ++ drop (place + length f) before)

-- a text is written at a place: there is room, the next place is after it, and all other bytes stay
pub record Placed (place : ℕ) (f before : List ℕ) (next : ℕ) (after : List ℕ) : Type 0 where
  pub fits : place + length f ≤ length before
  pub next_place : next ≡ place + length f
  pub written : after ≡ put_at place f before
