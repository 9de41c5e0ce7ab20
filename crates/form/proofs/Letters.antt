-- A form is spelled with five letters, so each of its bytes is one of them. Assumes nothing.
use Prim.Native.Nat.{ℕ, ◌<◌}
use mathlib.Core.List.{List}
use lib.ListN.{length, get_or}
use Rattle.lists.proofs.List.{every_member}
use Rattle.form.specs.Form.{Form, FormLetter, letter_H, letter_S, letter_T, letter_W, letter_X}
use Rattle.form.proofs.Spelled.{OfFive, spelled_form}

five_form_letters : OfFive FormLetter
five_form_letters = record { of_H = letter_H; of_S = letter_S; of_T = letter_T; of_W = letter_W; of_X = letter_X }

pub form_letter_at : {f : List ℕ} → Form f → (i : ℕ) → i < length f → FormLetter (get_or f i 0)
form_letter_at form i below = every_member 0 (spelled_form five_form_letters form) i below
