-- What is added to the output piece by piece is the line. Assumes nothing.
use Prim.Native.Nat.{ℕ}
use mathlib.Core.List.{List, [], ◌∷◌, ◌++◌, append_assoc}
use mathlib.Core.Path.{◌≡◌}
use Rattle.lines.specs.Line.{line_end}
use Rattle.report.specs.Report.{space, ok, no, field, head, ok_line, no_line}

module _ (before : List ℕ) (first second : ℕ) where
  pub no_line_added : before ++ no ++ field first ++ field second ++ (line_end ∷ []) ≡ before ++ no_line first second
  unfolding no_line head
  no_line_added = simp append_assoc

  pub ok_line_added :
      (form : List ℕ) → before ++ ok ++ field first ++ field second ++ (space ∷ []) ++ form ++ (line_end ∷ []) ≡ before ++ ok_line first second form
  unfolding ok_line head
  ok_line_added form = simp append_assoc
