-- `place::Page::put` meets its contract. Assumes nothing.
use borrow.Author.Rules.{rules}
use native.Mathlib.Omega.{arith}
use Rattle.place.proofs.Place.{placed_one}
use Rattle.place.proofs.Page.put.Goals as goal

pub returns : goal.returns
returns c = record { same_buffer = search rules; placed = placed_one _ _ _ (omega (arith, c.requires)) }
