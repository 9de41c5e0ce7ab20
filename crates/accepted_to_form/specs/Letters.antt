-- The letter list of a record.
use Rattle.std.specs.Prelude.{ℕ, List}
use Rattle.matrix.specs.declared.Matrix.{Matrix}
use Rattle.matrix.specs.Matrix.{Same}
use Rattle.matrix.specs.Letter.{Letters, matrix_of}

-- letters alone, with the record's matrix, phase included
pub record Spelt (m : Matrix) (text : List ℕ) : Type 0 where
  pub letters : Letters text
  pub same : Same (matrix_of text) m

-- the most letters of an accepted record: three for each of 80 steps, and at the end three, T, SSS and WWWWWWW
abbrev pub most_letters : ℕ
most_letters = 254
