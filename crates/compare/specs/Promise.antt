-- Document 01, "Refusals": comparison of strings A and B.
use Rattle.std.specs.Prelude.{ℕ, zero, suc, ◌≤◌, List, Result, Ok, Err}
use Rattle.ring.specs.declared.Element.{Element}
use Rattle.ring.specs.Element.{one, turned, product}
use Rattle.matrix.specs.declared.Matrix.{Matrix}
use Rattle.matrix.specs.Matrix.{matrix, Same}
use Rattle.matrix.specs.Letter.{matrix_of}
use Rattle.answer.specs.declared.Refusal.{Refusal}
use Rattle.answer.specs.Refusal.{number, place}
use Rattle.alphabet.specs.String.{AcceptedString, RefusedString}
use Rattle.compare.specs.declared.Which.{Which}
use Rattle.compare.specs.declared.Which.TheVariants.{First, Second}
use Rattle.compare.specs.declared.Relation.{Relation}
use Rattle.compare.specs.declared.Relation.TheVariants.{Same as SameAnswer, Phase, Different}
use Rattle.compare.specs.declared.Refused.{Refused}

-- What a comparison says, in document 01's terms: "same, or phase j, or different, or a refusal with its place and with
-- which string it concerns".
pub data Verdict : Type 0 where
  same : Verdict
  phase : ℕ → Verdict
  different : Verdict
  refused : Which → ℕ → ℕ → Verdict

-- the paper's number and values for each case of what a comparison returns
abbrev pub verdict : Result Relation Refused → Verdict
verdict (Ok SameAnswer) = same
verdict (Ok (Phase j)) = phase j
verdict (Ok Different) = different
verdict (Err r) = refused r.which (number r.refusal) (place r.refusal)

-- ω^j
unfoldable pub omega_power : ℕ → Element
omega_power zero = one
omega_power (suc j) = turned (omega_power j)

-- ω^j times a matrix
unfoldable pub phased : ℕ → Matrix → Matrix
phased j m =
    matrix m.exponent
    (product (omega_power j) m.top.left) (product (omega_power j) m.top.right)
    (product (omega_power j) m.bottom.left) (product (omega_power j) m.bottom.right)

-- A = ω^j B
abbrev pub PhaseApart : List ℕ → List ℕ → ℕ → Type 0
PhaseApart a b j = Same (matrix_of a) (phased j (matrix_of b))

-- How the matrices of two letter lists of any length stand to each other: equal; or apart by ω^j, j from 1 to 7; or by no
-- power of ω at all.
pub data Related (a b : List ℕ) : Verdict → Type 0 where
  equal : Same (matrix_of a) (matrix_of b) → Related a b same
  apart : {j : ℕ} → 1 ≤ j → j ≤ 7 → PhaseApart a b j → Related a b (phase j)
  unlike : ((j : ℕ) → PhaseApart a b j → ⊥) → Related a b different

-- What a comparison may say of A and B: "the second string is looked at only when the first was accepted".
pub data Compare (a b : List ℕ) : Verdict → Type 0 where
  first_refused : {r : Refusal} → RefusedString a r → Compare a b (refused First (number r) (place r))
  second_refused : {r : Refusal} → AcceptedString a → RefusedString b r → Compare a b (refused Second (number r) (place r))
  compared : {v : Verdict} → AcceptedString a → AcceptedString b → Related a b v → Compare a b v
