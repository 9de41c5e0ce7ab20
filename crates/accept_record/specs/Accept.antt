-- Document 01, "Limits" and "Refusals": which matrix records are accepted, and the refusals 4, 5, 6 in their order.
use Rattle.std.specs.Prelude.{ℕ, ◌<◌, ◌≤◌, List, Bool, ◌&&◌, ℤ, pos, neg_ℤ, Result, Ok, Err}
use Rattle.std.specs.Int.Signed.{le_z}
use Rattle.lists.specs.List.{AllPass, FirstFailing}
use Rattle.matrix.specs.declared.Matrix.{Matrix}
use Rattle.matrix.specs.Matrix.{Unitary}
use Rattle.coefficients.specs.Coefficients.{coefficients}
use Rattle.answer.specs.declared.Refusal.{Refusal}
use Rattle.answer.specs.declared.Refusal.TheVariants.{HighExponent, WideCoefficient, NotUnitary}
use Rattle.answer.specs.Limits.{exponent_limit, coefficient_limit}

-- "each coefficient from −1,048,576 to 1,048,576"
unfoldable pub in_limit : ℤ → Bool
in_limit z = le_z (neg_ℤ (pos coefficient_limit)) z && le_z z (pos coefficient_limit)

abbrev pub InLimits : List ℤ → Type 0
InLimits list = AllPass in_limit list

-- "coefficient beyond its limit": the index of the first
abbrev pub FirstWide : List ℤ → ℕ → Type 0
FirstWide list index = FirstFailing in_limit list index

-- a record inside the limits
pub record Inside (m : Matrix) : Type 0 where
  pub exponent : m.exponent ≤ exponent_limit
  pub coefficients : InLimits (coefficients m)

-- an accepted record: "A matrix inside the limits is taken exactly when it is unitary"
pub record AcceptedRecord (m : Matrix) : Type 0 where
  pub inside : Inside m
  pub unitary : Unitary m

-- the refusals of a record, each exactly in its case: 4, then 5, then 6
pub data RefusedRecord (m : Matrix) : Refusal → Type 0 where
  high_exponent : exponent_limit < m.exponent → RefusedRecord m HighExponent
  wide_coefficient :
      {i : ℕ} → m.exponent ≤ exponent_limit → FirstWide (coefficients m) i → RefusedRecord m (WideCoefficient i)
  not_unitary : Inside m → (Unitary m → ⊥) → RefusedRecord m NotUnitary

-- what is judged of a record
abbrev pub Judged : Matrix → Result (Unit {0}) Refusal → Type 0
Judged m (Ok accepted) = AcceptedRecord m
Judged m (Err refusal) = RefusedRecord m refusal
