-- There is room, and as the next line comes from what is held now, so it comes from the start; after a turn it may also fail.
use Rattle.std.proofs.Common.{Bool, ℕ, List, ◌+◌, ◌<◌, ◌≤◌}
use Rattle.std.specs.Prelude.{Result, Err}
use Rattle.std.specs.declared.io.Error.{Error}
use Rattle.arrayvec.specs.ArrayVec.{array_vec_len}
use Rattle.lines.specs.Rest.{Rest}
use Rattle.lines.specs.Line.{Turns, Comes}
use Rattle.lines.proofs.Lines.next_line.Given as goal

abbrev pub invariant-loop : goal.invariant-loop
invariant-loop g l = record {
  room : array_vec_len l.self.output + l.room ≤ 65536;
  turns :
      (answer : Result Bool Error) (line : List ℕ) (rest : Rest) (left : List ℕ) →
      Turns g.row.N l.self.input l.self.line.items l.self.output.items answer line rest left →
      Comes g.row.N 65536 l.room l.fn.self.input l.fn.self.output.items answer line rest left;
  failed :
      0 < l.counter → (error : Error) (line : List ℕ) (rest : Rest) (left : List ℕ) →
      Comes g.row.N 65536 l.room l.fn.self.input l.fn.self.output.items (Err error) line rest left;
}
