-- What it means that letters extend a form that codes and a tail keep, however many letters they are.
use Rattle.std.specs.Prelude.{ℕ, ◌≤◌, List, ◌++◌, [], ◌≡◌, Result, Ok, Err, ⊤}
use Rattle.matrix.specs.Matrix.{Same}
use Rattle.matrix.specs.Letter.{Letters, FirstBad, matrix_of}
use Rattle.form.specs.Count.{t_count}
use Rattle.extend_form.specs.Spelling.{Spelling, spelled_text, WellFormed}

-- the empty form
pub record Fresh (s : Spelling) : Type 0 where
  pub no_codes : s.codes ≡ []
  pub no_tail : s.tail ≡ 0

-- the text g is the text f extended by the text w: the same matrix, phase included, and no more T's
pub record Extends (f w g : List ℕ) : Type 0 where
  pub same : Same (matrix_of g) (matrix_of (f ++ w))
  pub no_more_T : t_count g ≤ t_count (f ++ w)

-- what codes and a tail become when the form that they spell is extended by a text
pub record Extended (s : Spelling) (w : List ℕ) (s' : Spelling) : Type 0 where
  pub well_formed : WellFormed s'
  pub extends : Extends (spelled_text s) w (spelled_text s')

-- what extending by a text finds: the first bad place, or the form extended by all of it
abbrev pub ExtendsByText : Spelling → List ℕ → Spelling → Result ⊤ ℕ → Type 0
ExtendsByText s w s' (Err p) = FirstBad w p
ExtendsByText s w s' (Ok _) = Letters w × Extended s w s'
