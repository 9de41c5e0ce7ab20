-- `place::write_text` meets its contract: the text is copied over as much of the buffer. Assumes nothing.
use borrow.Author.Rules.{rules}
use Rattle.place.proofs.Place.{placed_by_copy}
use Rattle.place.proofs.write_text.Goals as goal

pub returns : goal.returns
returns c = record {
  fits = search rules;
  next_place = search rules;
  written = placed_by_copy c.args.place c.args.text.now c.args.buffer.now _ c.copy_from_slice.ensures.after;
}
