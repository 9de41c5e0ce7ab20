-- Document 01, "The form" and "Tempting mistakes": the identities to stand on, phase included. ω⁻¹ is WWWWWWW.
use Rattle.std.specs.Prelude.{ℕ, List, [], ◌∷◌}
use Prim.Native.String.{String}
use Rattle.matrix.specs.Matrix.{Same}
use Rattle.matrix.specs.Letter.{matrix_of}
use Rattle.matrix.specs.Text.{bytes}

-- two letter lists of one matrix
pub record Identity : Type 0 where
  pub left : List ℕ
  pub right : List ℕ

abbrev pub ◌is◌ : String → String → Identity
◌is◌ left right = record { left = bytes left; right = bytes right }

infix 4 ◌is◌
unfoldable pub identities : List Identity
identities =
    ("TT" is "S")
    ∷ ("ST" is "TS")
    ∷ ("XT" is "TXSWWWWWWW")
    ∷ ("SX" is "WWXSSS")
    ∷ ("HSHSHS" is "W")
    ∷ ("HX" is "ZH")
    ∷ ("Z" is "SS")
    ∷ ("Y" is "WWXSS")
    ∷ ("TTTT" is "SS")
    ∷ ("HH" is "")
    ∷ ("WWWWWWWW" is "")
    ∷ []

-- each of a list of identities holds
unfoldable pub Hold : List Identity → Type 0
Hold [] = Unit {0}
Hold (e ∷ rest) = Same (matrix_of e.left) (matrix_of e.right) × Hold rest
