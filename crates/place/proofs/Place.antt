-- Texts written one after the other: a text and then another at the place after it are both in a row, and the buffer keeps
-- its length. A copy or a fill over a part of the buffer writes a text. Assumes nothing.
use Prim.Native.Nat.{ℕ, ◌+◌, ◌-◌, ◌≤◌, ◌<◌}
use native.Mathlib.Nat.{add-zero}
use native.Mathlib.Numerals.{add-one}
use native.Mathlib.Omega.{arith}
use mathlib.Core.List.{List, [], ◌∷◌, ◌++◌, append_assoc}
use mathlib.Core.Path.{◌≡◌, refl, sym, ap, ap₂, ◌∙◌}
use lib.ListN.{length, take, drop, set, length-append, length-take, length-drop, take-append-drop, replicate, length-replicate}
use lib.Seq.{length-take-le, take_at, drop-append-add, drop-drop, set_split}
use Rattle.place.specs.Place.{put_at, Placed}

pub placed_nothing : (place : ℕ) (before : List ℕ) → place ≤ length before → Placed place [] before place before
unfolding put_at
placed_nothing place before h =
    record {
      fits = omega arith;
      next_place = omega arith;
      written = sym (ap (λ (n : ℕ). take place before ++ drop n before) (add-zero place) ∙ take-append-drop place before);
    }

pub placed_one : (place : ℕ) (before : List ℕ) (b : ℕ) → place < length before → Placed place (b ∷ []) before (place + 1) (set before place b)
unfolding put_at
placed_one place before b h =
    record {
      fits = omega arith;
      next_place = refl;
      written =
          set_split before place b h
          ∙ ap (λ (n : ℕ). take place before ++ (b ∷ drop n before)) (sym (add-one place));
    }

-- a text keeps the buffer's length
put_at_length : (place : ℕ) (f before : List ℕ) → place + length f ≤ length before → length (put_at place f before) ≡ length before
unfolding put_at
put_at_length place f before h =
    length-append (take place before) (f ++ drop (place + length f) before)
    ∙ omega (
      arith,
      length-take place before,
      length-append f (drop (place + length f) before),
      length-drop (place + length f) before,
    )

pub placed_length : {place next : ℕ} {f before after : List ℕ} → Placed place f before next after → length after ≡ length before
placed_length {place} {next} {f} {before} p = ap length p.written ∙ put_at_length place f before p.fits

-- the room that a text of at most so many bytes leaves
pub placed_room : {place next : ℕ} {f before after : List ℕ} (size rest : ℕ) → length f ≤ size → place + (size + rest) ≤ length before →
    Placed place f before next after → next + rest ≤ length after
placed_room size rest short room p = omega (arith, p.next_place, placed_length p)

-- a text written after another
put_at_more : (place : ℕ) (f g before : List ℕ) → place + length f ≤ length before →
    put_at (place + length f) g (put_at place f before) ≡ put_at place (f ++ g) before
unfolding put_at
put_at_more place f g before h =
    let start = take place before ++ f in
    let rest = drop (place + length f) before in
    let start_length : length start ≡ place + length f = length-append (take place before) f ∙ ap (λ (n : ℕ). n + length f) (length-take-le place before (omega arith)) in
    let joined : take place before ++ (f ++ rest) ≡ start ++ rest = sym (append_assoc (take place before) f rest) in
    let both_lengths : place + length f + length g ≡ place + length (f ++ g) = omega (arith, length-append f g) in
    ap₂ (λ (s t : List ℕ). s ++ (g ++ t))
    (ap (take (place + length f)) joined ∙ take_at start rest (place + length f) start_length)
    (ap₂ drop (ap (λ (n : ℕ). n + length g) (sym start_length)) joined
    ∙ drop-append-add start rest (length g)
    ∙ drop-drop (length g) (place + length f) before
    ∙ ap (λ (n : ℕ). drop n before) both_lengths)
    ∙ append_assoc (take place before) f (g ++ drop (place + length (f ++ g)) before)
    ∙ ap (λ (t : List ℕ). take place before ++ t) (sym (append_assoc f g (drop (place + length (f ++ g)) before)))

pub placed_more :
    {place middle next : ℕ} {f g before between after : List ℕ} →
    Placed place f before middle between → Placed middle g between next after → Placed place (f ++ g) before next after
placed_more {place} {middle} {next} {f} {g} {before} {between} {after} first second =
    record {
      fits = omega (arith, length-append f g, first.next_place, second.fits, placed_length first);
      next_place = omega (arith, length-append f g, first.next_place, second.next_place);
      written =
          second.written
          ∙ ap₂ (λ (n : ℕ) (l : List ℕ). put_at n g l) first.next_place first.written
          ∙ put_at_more place f g before first.fits;
    }

-- a text copied over as much of the buffer
pub placed_by_copy :
    (place : ℕ) (f before copied : List ℕ) → copied ≡ f →
    take place before ++ (copied ++ drop (place + length f - place) (drop place before)) ≡ put_at place f before
unfolding put_at
placed_by_copy place f before copied e =
    let size : place + length f - place ≡ length f = omega arith in
    rw (e, size, drop-drop)

-- a letter filled over as much of the buffer, by whatever tells how much that is
pub placed_by_fill :
    (place times size letter : ℕ) (before filled : List ℕ) → size ≡ times → filled ≡ replicate times letter →
    take place before ++ (filled ++ drop size (drop place before)) ≡ put_at place (replicate times letter) before
placed_by_fill place times size letter before filled long e =
    let same : size ≡ place + length (replicate times letter) - place = omega (arith, length-replicate times letter) in
    rw same (placed_by_copy place (replicate times letter) before filled e)
