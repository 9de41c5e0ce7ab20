-- What a form written into a lent buffer, or refused for want of room, says of the answer and of every lent byte: shown
-- once, for all calls that write a form. Assumes nothing.
use mathlib.Core.Path.{◌≡◌, refl, ap, ◌∙◌}
use mathlib.Core.List.{List, ◌++◌}
use Prim.Native.Nat.{ℕ, ◌≤◌}
use native.Mathlib.Nat.{zero-add}
use native.Mathlib.Omega.{arith}
use lib.ListN.{length, take, drop}
use lib.Seq.{take_at, drop_at}
use Rattle.place.specs.Place.{put_at, Placed}
use Rattle.answer.specs.declared.Figures.{Figures}
use Rattle.answer.specs.Refusal.{Said, accepted, refused}
use Rattle.answer.specs.Written.{figures_of, put, PutForm, no_room, room}

-- the form stands at the start of the buffer, and the bytes after it stay
pub record Stands (f before : List ℕ) (x : Figures) (after : List ℕ) : Type 0 where
  pub figures : x ≡ figures_of f
  pub start : take (length f) after ≡ f
  pub rest : drop (length f) after ≡ drop (length f) before
  pub fits : length f ≤ length before

pub put_stands : {f before after : List ℕ} {x : Figures} → PutForm f before (accepted x) after → Stands f before x after
unfolding put
put_stands {f} {before} (room h) = record {
  figures = refl;
  start = take_at f (drop (length f) before) (length f) refl;
  rest = drop_at f (drop (length f) before) (length f) refl;
  fits = h;
}

-- a refusal changes no lent byte
pub put_refused : {f before after : List ℕ} {n p : ℕ} → PutForm f before (refused n p) after → after ≡ before
put_refused (no_room h) = refl

-- one form and one buffer have one answer, and leave one buffer
pub put_once : {f before after after' : List ℕ} {answer answer' : Said Figures} →
    PutForm f before answer after → PutForm f before answer' after' → (answer ≡ answer') × (after ≡ after')
put_once (no_room h) (no_room h') = (refl, refl)
put_once (no_room h) (room h') = absurd (omega arith)
put_once (room h) (no_room h') = absurd (omega arith)
put_once (room h) (room h') = (refl, refl)

-- "the answer stands at the start of the buffer and the bytes after it stay"
pub placed_at_start : {next : ℕ} {f before after : List ℕ} → Placed 0 f before next after → after ≡ put f before
unfolding put_at put
placed_at_start {f = f} {before = before} p = p.written ∙ ap (λ (n : ℕ). f ++ drop n before) (zero-add (length f))
