-- The bytes before `i` are letters, and the form is extended by them.
use lib.ListN.{take}
use Rattle.matrix.specs.Letter.{Letters}
use Rattle.extend_form.specs.Extend.{Extended}
use Rattle.extend_form.proofs.Spelled.by_text.Given as goal

abbrev pub invariant-loop-i : goal.invariant-loop-i
invariant-loop-i g l = record {
  letters : Letters (take l.i l.text);
  extended : Extended l.initial.self (take l.i l.text) l.self;
}
