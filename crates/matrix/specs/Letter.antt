-- Document 01, "What goes in and what comes out" and "Numbers and matrices": the seven letters, their matrices, and
-- the matrix of a string. A text is the list of its bytes.
use Rattle.std.specs.Prelude.{ℕ, Bool, true, cond, List, [], ◌∷◌, eqb}
use Rattle.lists.specs.List.{AllPass, FirstFailing}
use Rattle.ring.specs.Element.{nothing, one, omega, omega2, negation}
use Rattle.matrix.specs.declared.Matrix.{Matrix}
use Rattle.matrix.specs.Matrix.{matrix, identity, times}

-- "The seven letters H S T W X Y Z", as bytes.
abbrev pub H : ℕ
H = 72

abbrev pub S : ℕ
S = 83

abbrev pub T : ℕ
T = 84

abbrev pub W : ℕ
W = 87

abbrev pub X : ℕ
X = 88

abbrev pub Y : ℕ
Y = 89

abbrev pub Z : ℕ
Z = 90

-- "H = [[1, 1], [1, −1]]/√2; S = diag(1, ω²); T = diag(1, ω); W = ω times the identity; X = [[0, 1], [1, 0]];
-- Z = diag(1, −1); Y = [[0, −ω²], [ω², 0]]."
unfoldable pub gate_H : Matrix
gate_H = matrix 1 one one one (negation one)

unfoldable pub gate_S : Matrix
gate_S = matrix 0 one nothing nothing omega2

unfoldable pub gate_T : Matrix
gate_T = matrix 0 one nothing nothing omega

unfoldable pub gate_W : Matrix
gate_W = matrix 0 omega nothing nothing omega

unfoldable pub gate_X : Matrix
gate_X = matrix 0 nothing one one nothing

unfoldable pub gate_Y : Matrix
gate_Y = matrix 0 nothing (negation omega2) omega2 nothing

unfoldable pub gate_Z : Matrix
gate_Z = matrix 0 one nothing nothing (negation one)

-- the letter test: the one place that says which bytes a string may hold
unfoldable pub is_letter : ℕ → Bool
is_letter b =
    cond (eqb b H) true
    (cond (eqb b S) true
    (cond (eqb b T) true
    (cond (eqb b W) true
    (cond (eqb b X) true
    (cond (eqb b Y) true
    (eqb b Z))))))

-- the matrix of a letter (a byte that is no letter stands for nothing, and no promise speaks of one)
unfoldable pub gate : ℕ → Matrix
gate b =
    cond (eqb b H) gate_H
    (cond (eqb b S) gate_S
    (cond (eqb b T) gate_T
    (cond (eqb b W) gate_W
    (cond (eqb b X) gate_X
    (cond (eqb b Y) gate_Y
    (cond (eqb b Z) gate_Z identity))))))

-- "A string is read in matrix order: the leftmost letter is the leftmost factor. The empty string is the identity."
unfoldable pub matrix_of : List ℕ → Matrix
matrix_of [] = identity
matrix_of (b ∷ s) = times (gate b) (matrix_of s)

-- every byte is one of the letters
abbrev pub Letters : List ℕ → Type 0
Letters text = AllPass is_letter text

-- "a byte outside the seven letters": the first such place
abbrev pub FirstBad : List ℕ → ℕ → Type 0
FirstBad text place = FirstFailing is_letter text place
