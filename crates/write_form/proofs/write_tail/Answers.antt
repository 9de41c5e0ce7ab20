-- `write_form::write_tail` meets its contract: each part leaves room for those after it. Assumes nothing.
use Rattle.std.proofs.Common.{ℕ, ◌+◌, length, replicate, arith}
use Rattle.std.proofs.Math.ListN.{length-replicate}
use Rattle.matrix.specs.Letter.{S, X}
use Rattle.form.specs.Tail.{tail_h, tail_b, tail_c, tail_a, head_text, tail_text}
use Rattle.form.proofs.Count.{length_tail}
use Rattle.place.specs.declared.Page.{Page}
use Rattle.place.specs.Page.{HasRoom, Wrote}
use Rattle.place.proofs.Written.{wrote_more, room_after}
use Rattle.write_form.proofs.write_tail.Goals as goal

after_head : {page page' : Page} (n : ℕ) → HasRoom page (length (tail_text n)) → Wrote page (head_text (tail_h n)) page' →
    HasRoom page' (tail_b n + (tail_c n + tail_a n))
after_head n room wrote =
    room_after (length (head_text (tail_h n))) (tail_b n + (tail_c n + tail_a n)) (omega arith) (omega (arith, room, length_tail n)) wrote

after_run : {page page' : Page} (times letter rest : ℕ) → HasRoom page (times + rest) → Wrote page (replicate times letter) page' →
    HasRoom page' rest
after_run times letter rest room wrote = room_after times rest (omega (arith, length-replicate times letter)) room wrote

pub write_head-requires : goal.write_head-requires
write_head-requires c = rw c.head.ensures (omega (arith, c.requires, length_tail c.args.tail.number))

pub put_run-requires : goal.put_run-requires
put_run-requires c =
    omega (arith, after_head c.args.tail.number c.requires (rw c.head.ensures at c.write_head.ensures), c.xs.ensures)

pub put_run-requires-2 : goal.put_run-requires-2
put_run-requires-2 c =
    let n = c.args.tail.number in
    omega (
      arith,
      after_run c.xs.result X (tail_c n + tail_a n)
          (omega (arith, after_head n c.requires (rw c.head.ensures at c.write_head.ensures), c.xs.ensures)) c.put_run.ensures,
      c.ss.ensures,
    )

pub put_run-requires-3 : goal.put_run-requires-3
put_run-requires-3 c =
    let n = c.args.tail.number in
    let after_x =
    after_run c.xs.result X (tail_c n + tail_a n)
    (omega (arith, after_head n c.requires (rw c.head.ensures at c.write_head.ensures), c.xs.ensures)) c.put_run.ensures in
    omega (arith, after_run c.ss.result S (tail_a n) (omega (arith, after_x, c.ss.ensures)) c.put_run-2.ensures, c.ws.ensures)

pub returns : goal.returns
unfolding tail_text
returns c =
    rw (← c.head.ensures, ← c.xs.ensures, ← c.ss.ensures, ← c.ws.ensures)
    (wrote_more c.write_head.ensures (wrote_more c.put_run.ensures (wrote_more c.put_run-2.ensures c.put_run-3.ensures)))
