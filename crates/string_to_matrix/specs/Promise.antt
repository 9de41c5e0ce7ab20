-- Document 01, "Refusals": string to matrix, in the order 2, 1, 8.
use Rattle.std.specs.Prelude.{ℕ, ◌<◌, ◌≤◌, List}
use Rattle.matrix.specs.declared.Matrix.{Matrix}
use Rattle.matrix.specs.Matrix.{LeastRecord}
use Rattle.matrix.specs.Letter.{matrix_of}
use Rattle.answer.specs.declared.Refusal.{Refusal}
use Rattle.answer.specs.declared.Refusal.TheVariants.{HighLeastExponent}
use Rattle.answer.specs.Limits.{exponent_limit}
use Rattle.answer.specs.Refusal.{Said, accepted, refusal}
use Rattle.alphabet.specs.String.{AcceptedString, RefusedString}

-- "String to matrix returns the least record", or refuses 8 where its exponent is above the limit.
pub data StringToMatrix (text : List ℕ) : Said Matrix → Type 0 where
  refused_string : {r : Refusal} → RefusedString text r → StringToMatrix text (refusal r)
  high_least_exponent :
      {m : Matrix} → AcceptedString text → LeastRecord (matrix_of text) m → exponent_limit < m.exponent →
      StringToMatrix text (refusal HighLeastExponent)
  least_record :
      {m : Matrix} → AcceptedString text → LeastRecord (matrix_of text) m → m.exponent ≤ exponent_limit →
      StringToMatrix text (accepted m)
