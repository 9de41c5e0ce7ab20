-- `place::write_run` meets its contract: the letter fills as much of the buffer. Assumes nothing.
use borrow.Author.Rules.{rules}
use Rattle.std.proofs.Common.{ℕ, ◌≡◌, ap, ◌∙◌, replicate, arith}
use Rattle.place.proofs.Place.{placed_by_fill}
use Rattle.place.proofs.write_run.Goals as goal

pub returns : goal.returns
returns c =
    let filled : c.fill.new.self ≡ replicate c.args.times c.args.letter =
    c.fill.ensures.after (λ y same. search rules) ∙ ap (λ (n : ℕ). replicate n c.args.letter) (search rules) in
    record {
      fits = search rules;
      next_place = search rules;
      written = placed_by_fill c.args.place c.args.times _ c.args.letter c.args.buffer.now _ (omega arith) filled;
    }
