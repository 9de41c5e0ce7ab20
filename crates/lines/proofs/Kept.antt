-- What is kept of a line: the pieces of a line, each cut at the room that is left, are the line cut at the room; and where
-- a part of the input has its first line end. Assumes nothing.
use Prim.Native.Nat.{ℕ, zero, suc, ◌+◌, ◌-◌, ◌≤◌, ◌<◌, min, zero-le}
use native.Mathlib.Nat.{le_of_lt}
use native.Mathlib.Numerals.{unary_clauses}
use native.Mathlib.Omega.{arith}
use mathlib.Core.List.{List, [], ◌∷◌, ◌++◌}
use mathlib.Core.Path.{◌≡◌, refl, sym, ap, ◌∙◌}
use lib.ListN.{length, take, drop, length-take, take-append-drop}
use lib.Seq.{drop-drop, take-append-add, take-length, length-take-le, drop-cons}
use borrow.Author.Tests.{eqb-true}
use Rattle.std.specs.Prelude.{Option, Some, None, slice_range}
use Rattle.std.proofs.lemmas.List.{drop-take}
use Rattle.memchr.specs.Find.{NoneBefore, Nowhere, Passes, is_byte}
use Rattle.std.proofs.Common.{eq-eqb, get_or}
use Rattle.lines.specs.Line.{Takes, Unbroken, line_end}

cut_at_min : (m : ℕ) (s : List ℕ) → take (min (length s) m) s ≡ take m s
cut_at_min zero [] = refl
cut_at_min zero (b ∷ s) = simp unary_clauses
cut_at_min (suc m) [] = simp unary_clauses
cut_at_min (suc m) (b ∷ s) = simp unary_clauses (ap (λ (r : List ℕ). b ∷ r) (cut_at_min m s))

-- a list cut at the least of its length and a number is cut at the number
pub cut_at_least : {n : ℕ} (m : ℕ) (s : List ℕ) → n ≡ min (length s) m → take n s ≡ take m s
cut_at_least m s least = rw least (cut_at_min m s)

-- a piece cut at the room that is left ends the line cut at the room
pub cut_piece :
    (room free : ℕ) {n : ℕ} (so_far piece : List ℕ) → free + length so_far ≡ room → n ≡ min (length piece) free →
    so_far ++ take n piece ≡ take room (so_far ++ piece)
cut_piece room free so_far piece whole least =
    let all : length so_far + free ≡ room = omega arith in
    rw (cut_at_least free piece least) (sym (take-append-add so_far piece free) ∙ rw all)

-- a line cut at the room, and a piece more cut there again
cut_again : (room : ℕ) (so_far piece : List ℕ) → take room (take room so_far ++ piece) ≡ take room (so_far ++ piece)
cut_again zero so_far piece = refl
cut_again (suc room) [] piece = refl
cut_again (suc room) (b ∷ so_far) piece = ap (λ (s : List ℕ). b ∷ s) (cut_again room so_far piece)

-- what is held of the line so far serves as well as all of it: however the input is cut, the same is kept
pub held_serves :
    {part so_far line : List ℕ} {room : ℕ} {t : Option ℕ} → Takes part (take room so_far) room t line → Takes part so_far room t line
held_serves {so_far = so_far} {room = room} (Takes.ends {piece} unbroken rest split held) =
    Takes.ends unbroken rest split (rw (cut_again room so_far piece) at held)
held_serves {part} {so_far} {room = room} (Takes.goes_on unbroken held) =
    Takes.goes_on unbroken (rw (cut_again room so_far part) at held)

-- bytes none of which is a line end
unbroken : (n : ℕ) (part : List ℕ) → ((k : ℕ) → k < n → get_or part k 0 ≡ line_end → ⊥) → Unbroken (take n part)
unbroken zero part other = Unbroken.none
unbroken (suc n) [] other = Unbroken.none
unbroken (suc n) (b ∷ s) other = Unbroken.more (other 0 (omega arith)) (unbroken n s (λ k h. other (suc k) (omega arith)))

module _ (part so_far : List ℕ) {room : ℕ} {line : List ℕ} where
  -- a line end within the part
  pub line_taken :
      (n : ℕ) → NoneBefore (Passes (is_byte line_end) part) 0 (length part) n × Passes (is_byte line_end) part n →
      line ≡ take room (so_far ++ take n part) → Takes part so_far room (Some (n + 1)) line
  line_taken n found held =
      let here : get_or part n 0 ≡ line_end = eqb-true (get_or part n 0) line_end found.1 in
      let split : part ≡ take n part ++ (line_end ∷ drop (suc n) part) =
      sym (take-append-drop n part) ∙ ap (λ (s : List ℕ). take n part ++ s) (drop-cons part n 0 found.0.high ∙ ap (λ (b : ℕ). b ∷ drop (suc n) part) here) in
      rw (← length-take-le n part (le_of_lt found.0.high))
      (Takes.ends (unbroken n part (λ k h e. found.0.before k zero-le h (eq-eqb (get_or part k 0) line_end e))) (drop (suc n) part) split held)

  -- none
  pub part_taken :
      Nowhere (Passes (is_byte line_end) part) 0 (length part) → line ≡ take room (so_far ++ part) → Takes part so_far room None line
  part_taken none held =
      Takes.goes_on (rw take-length at (unbroken (length part) part (λ k h e. none k zero-le h (eq-eqb (get_or part k 0) line_end e)))) held

-- a part of a list, without its first bytes
pub range_without :
    (xs : List ℕ) (i j n : ℕ) → n ≤ length (slice_range xs i j) → slice_range xs (i + n) j ≡ drop n (slice_range xs i j)
range_without xs i j n within =
    let whole : j - i ≡ n + (j - (i + n)) = omega (arith, length-take (j - i) (drop i xs)) in
    rw (whole, drop-take n (j - (i + n)) (drop i xs), drop-drop n i xs)
