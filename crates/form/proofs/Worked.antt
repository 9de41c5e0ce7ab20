-- The fifteen starred cases of document 01, in one table: each string has the form beside it. One test runs over the
-- whole table. Assumes nothing.
use mathlib.Core.Path.{◌≡◌, refl, ap₂}
use mathlib.Core.Bool.{Bool, true, false, ◌&&◌}
use mathlib.Core.List.{List, [], ◌∷◌}
use Prim.Native.Nat.{ℕ}
use lib.Dec.{T as Holds, eqb, eqb→eq, ltb, ltb→lt}
use Rattle.lists.specs.List.{Every, none, more}
use Rattle.ring.specs.Element.{nothing, one, omega as ω, omega2, sum, negation, multiple, turned, product}
use Rattle.matrix.specs.Matrix.{identity, times}
use Rattle.matrix.specs.Text.{bytes}
use Rattle.matrix.specs.Letter.{matrix_of, gate, gate_H, gate_S, gate_T, gate_W, gate_X, gate_Y, gate_Z}
use Rattle.matrix.proofs.Test.{both, whole_test, element_test, raised, over_test, same_test, same_by_test}
use Rattle.form.specs.Tail.{tails, tail_text, head_text}
use Rattle.form.specs.Form.{form_text, front_text, syllables_text, syllable_text}
use Rattle.form.specs.Worked.{Row, table, Right}

-- two texts are the same
text_test : List ℕ → List ℕ → Bool
text_test [] [] = true
text_test [] (b ∷ t) = false
text_test (a ∷ s) [] = false
text_test (a ∷ s) (b ∷ t) = eqb a b && text_test s t

text_equal : (s t : List ℕ) → Holds (text_test s t) → s ≡ t
unfolding text_test
text_equal [] [] h = refl
text_equal [] (b ∷ t) h = absurd h
text_equal (a ∷ s) [] h = absurd h
text_equal (a ∷ s) (b ∷ t) h = let (head, rest) = both (eqb a b) (text_test s t) h in ap₂ ◌∷◌ (eqb→eq a b head) (text_equal s t rest)

-- the form is spelled by its parts, has a tail's number, and means what the string means
row_test : Row → Bool
row_test r =
    ltb r.parts.tail tails && (text_test r.form (form_text r.parts) && same_test (matrix_of r.form) (matrix_of r.string))

row_right : (r : Row) → Holds (row_test r) → Right r
unfolding row_test
row_right r h =
    let (in_tails, rest) = both (ltb r.parts.tail tails) _ h in
    let (spelled, same) = both (text_test r.form (form_text r.parts)) _ rest in
    record {
      form = record { parts = r.parts; in_tails = ltb→lt r.parts.tail tails in_tails; spelled = text_equal r.form (form_text r.parts) spelled };
      same = same_by_test (matrix_of r.form) (matrix_of r.string) same;
    }

every_test : List Row → Bool
every_test [] = true
every_test (r ∷ rest) = row_test r && every_test rest

every_right : (rows : List Row) → Holds (every_test rows) → Every Right rows
unfolding every_test
every_right [] h = none
every_right (r ∷ rest) h = let (first, others) = both (row_test r) (every_test rest) h in more (row_right r first) (every_right rest others)

-- each string of the table has the form beside it
pub worked_cases : Every Right table
unfolding table every_test row_test text_test bytes same_test over_test raised element_test whole_test form_text front_text syllables_text syllable_text tail_text head_text matrix_of gate gate_H gate_S gate_T gate_W gate_X gate_Y gate_Z identity times nothing one ω omega2 sum negation multiple turned product
worked_cases = every_right table tt
