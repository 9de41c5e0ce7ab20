-- Document 01, "The programs": lines. A line is the bytes up to the next line end, or up to the end of the input; of a
-- longer line its first bytes are kept, as many as the line buffer holds.
use Rattle.std.specs.Prelude.{ℕ, suc, ◌+◌, ◌<◌, ◌≤◌, Option, Some, None, Result, Ok, Err, Bool, true, false, not, ◌==◌, List, [], ◌∷◌, ◌++◌, ◌≡◌, length, take}
use Rattle.lines.specs.Rest.{Rest, moved, ReadsOn}

abbrev pub line_end : ℕ
line_end = 10

-- bytes among which no line end stands
pub data Unbroken : List ℕ → Type 0 where
  none : Unbroken []
  more : {b : ℕ} {s : List ℕ} → (b ≡ line_end → ⊥) → Unbroken s → Unbroken (b ∷ s)

-- What a part of the input has of a line of which `so_far` came before: the rest of the line and its end, so many bytes of
-- the part; or bytes of the line alone. `room` is how many bytes of a line are held; those that are stand last.
pub data Takes (part so_far : List ℕ) (room : ℕ) : Option ℕ → List ℕ → Type 0 where
  ends :
      {piece : List ℕ} → Unbroken piece → (rest : List ℕ) → part ≡ piece ++ (line_end ∷ rest) →
      {line : List ℕ} → line ≡ take room (so_far ++ piece) → Takes part so_far room (Some (length piece + 1)) line
  goes_on : Unbroken part → {line : List ℕ} → line ≡ take room (so_far ++ part) → Takes part so_far room None line

-- "A last line without an end counts if it has a byte."
abbrev pub last : List ℕ → Bool
last line = not (length line == 0)

-- How the next line comes, turn by turn, from what the input still has, with `so_far` of the line held and `pending` still to
-- be written: the line ends in the part; or it goes on, and after what is pending is written it is read on; or it is the last;
-- or, where it goes on, writing or reading fails, or no turn is left, and there is no line. At exit the line, what the input
-- then still has, and what is then still to be written.
pub data Turns (room : ℕ) {E : Type 0} : (input : Rest) (so_far pending : List ℕ) → Result Bool E → (line : List ℕ) (rest : Rest) (left : List ℕ) → Type 0 where
  line_ends :
      {input : Rest} {so_far pending line : List ℕ} {used : ℕ} → Takes input.part so_far room (Some used) line →
      Turns room input so_far pending (Ok true) line (moved input used) pending
  goes_on :
      {input more rest : Rest} {so_far pending held line left : List ℕ} {answer : Result Bool E} →
      Takes input.part so_far room None held → ReadsOn input true more → Turns room more held [] answer line rest left →
      Turns room input so_far pending answer line rest left
  ended :
      {input rest : Rest} {so_far pending line : List ℕ} → Takes input.part so_far room None line → ReadsOn input false rest →
      Turns room input so_far pending (Ok (last line)) line rest []
  failed :
      {input rest : Rest} {so_far pending held line left : List ℕ} {error : E} → Takes input.part so_far room None held →
      Turns room input so_far pending (Err error) line rest left

-- How there comes to be room for so many bytes more, where `most` may be pending: what is pending stays where there is room,
-- and is else written first.
pub data Room (most room : ℕ) (pending : List ℕ) : List ℕ → Type 0 where
  there : length pending + room ≤ most → Room most room pending pending
  made : most < length pending + room → Room most room pending []

-- How the next line comes with room for so many bytes more: turn by turn, once there is room; or, where there is none, writing
-- fails first, and nothing is taken of the input.
pub data Comes (held most room : ℕ) {E : Type 0} (input : Rest) (pending : List ℕ) : Result Bool E → (line : List ℕ) (rest : Rest) (left : List ℕ) → Type 0 where
  turns :
      {ready line left : List ℕ} {rest : Rest} {answer : Result Bool E} → Room most room pending ready →
      Turns held input [] ready answer line rest left → Comes held most room input pending answer line rest left
  no_room :
      {line left : List ℕ} {error : E} → most < length pending + room →
      Comes held most room input pending (Err error) line input left

-- How the lines are answered, in so many turns, from what the input still has, with `pending` still to be written: each one
-- that comes is given to what answers, as the lines before have left it, which adds to what is pending; until no further line
-- comes; or writing or reading fails; or no turn is left. `Gives` is one answer.
pub data Answers (held most room : ℕ) {E F : Type 0} (Gives : F → (line pending : List ℕ) → F → (left : List ℕ) → Type 0) : (turns : ℕ) (input : Rest) (pending : List ℕ) → F → Result (Unit {0}) E → Type 0 where
  over :
      {turns : ℕ} {input rest : Rest} {pending line left : List ℕ} {f : F} → Comes held most room {E = E} input pending (Ok false) line rest left →
      Answers held most room Gives (suc turns) input pending f (Ok tt)
  answered :
      {turns : ℕ} {input rest : Rest} {pending line ready left : List ℕ} {f f' : F} {result : Result (Unit {0}) E} →
      Comes held most room {E = E} input pending (Ok true) line rest ready → Gives f line ready f' left →
      Answers held most room Gives turns rest left f' result → Answers held most room Gives (suc turns) input pending f result
  failed :
      {turns : ℕ} {input rest : Rest} {pending line left : List ℕ} {f : F} {error : E} → Comes held most room input pending (Err error) line rest left →
      Answers held most room Gives (suc turns) input pending f (Err error)
  unwritten :
      {turns : ℕ} {input rest : Rest} {pending line left : List ℕ} {f : F} {error : E} → Comes held most room {E = E} input pending (Ok false) line rest left →
      Answers held most room Gives (suc turns) input pending f (Err error)
  used_up : {input : Rest} {pending : List ℕ} {f : F} {error : E} → Answers held most room Gives 0 input pending f (Err error)
