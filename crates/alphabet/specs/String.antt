-- Document 01, "Limits" and "Refusals": which strings are accepted, and the refusals 2, 1 of a string in their order.
use Rattle.std.specs.Prelude.{ℕ, ◌<◌, ◌≤◌, List, length}
use Rattle.matrix.specs.Letter.{Letters, FirstBad}
use Rattle.answer.specs.declared.Refusal.{Refusal}
use Rattle.answer.specs.declared.Refusal.TheVariants.{BadLetter, TooLong}
use Rattle.answer.specs.Limits.{string_limit}

-- an accepted string: within the limit, and every byte a letter
pub record AcceptedString (text : List ℕ) : Type 0 where
  pub within : length text ≤ string_limit
  pub letters : Letters text

-- the refusals of a string, each exactly in its case: "text longer than its limit", then "a byte outside the seven letters"
pub data RefusedString (text : List ℕ) : Refusal → Type 0 where
  too_long : string_limit < length text → RefusedString text (TooLong string_limit)
  bad_letter : {p : ℕ} → length text ≤ string_limit → FirstBad text p → RefusedString text (BadLetter p)
