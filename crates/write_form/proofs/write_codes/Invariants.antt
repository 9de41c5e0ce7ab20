-- The text of the codes before the index is written.
use mathlib.Core.List.{reverse}
use lib.ListN.{take}
use Rattle.extend_form.specs.Spelling.{codes_text}
use Rattle.place.specs.Page.{Wrote}
use Rattle.write_form.proofs.write_codes.Given as goal

abbrev pub invariant-loop-code : goal.invariant-loop-code
invariant-loop-code l = Wrote l.initial.page (codes_text (reverse (take l.code-index l.codes))) l.page
