-- Document 01, "Refusals": what a call that writes a form answers, and what it leaves in the lent buffer.
use Rattle.std.specs.Prelude.{ℕ, ◌<◌, ◌≤◌, List, ◌++◌}
use Rattle.std.proofs.Math.ListN as L
use Rattle.form.specs.Count.{t_count, h_count}
use Rattle.answer.specs.declared.Refusal.TheVariants.{NoRoom}
use Rattle.answer.specs.declared.Figures.{Figures}
use Rattle.answer.specs.Refusal.{Said, accepted, refusal}

-- "An answer with a form carries length, T-count and H-count."
unfoldable pub figures_of : List ℕ → Figures
figures_of f = record { length = L.length f; tcount = t_count f; hcount = h_count f }

-- "On success the answer stands at the start of the buffer and the bytes after it stay."
unfoldable pub put : List ℕ → List ℕ → List ℕ
put f before = f ++ L.drop (L.length f) before

-- A form f is written into a lent buffer, or refused for want of room: "lent buffer shorter than the answer", place
-- "length needed". `PutForm f before answer after`: what is said, and the buffer at exit.
pub data PutForm (f before : List ℕ) : Said Figures → List ℕ → Type 0 where
  no_room : L.length before < L.length f → PutForm f before (refusal (NoRoom (L.length f))) before
  room : L.length f ≤ L.length before → PutForm f before (accepted (figures_of f)) (put f before)
