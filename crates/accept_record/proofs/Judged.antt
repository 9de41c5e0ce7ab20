-- Two judgements that fit one record are equal: a record is refused in one way at most, and an accepted one in none.
-- Assumes nothing.
use mathlib.Core.Path.{◌≡◌, refl, ap}
use native.Mathlib.Omega.{arith}
use Rattle.std.specs.Prelude.{Result, Ok, Err}
use Rattle.lists.proofs.List.{passes_or_fails, fails_once}
use Rattle.matrix.specs.declared.Matrix.{Matrix}
use Rattle.answer.specs.declared.Refusal.{Refusal}
use Rattle.answer.specs.declared.Refusal.TheVariants.{WideCoefficient}
use Rattle.accept_record.specs.Accept.{AcceptedRecord, RefusedRecord, high_exponent, wide_coefficient, not_unitary, Judged}

-- a record is refused in one way at most
pub refused_once : {m : Matrix} {r s : Refusal} → RefusedRecord m r → RefusedRecord m s → r ≡ s
refused_once (high_exponent h) (high_exponent k) = refl
refused_once (high_exponent h) (wide_coefficient k w) = absurd (omega arith)
refused_once (high_exponent h) (not_unitary i u) = absurd (omega (arith, i.exponent))
refused_once (wide_coefficient h v) (high_exponent k) = absurd (omega arith)
refused_once (wide_coefficient h v) (wide_coefficient k w) = ap WideCoefficient (fails_once v w)
refused_once (wide_coefficient h v) (not_unitary i u) = absurd (passes_or_fails i.coefficients v)
refused_once (not_unitary i u) (high_exponent k) = absurd (omega (arith, i.exponent))
refused_once (not_unitary i u) (wide_coefficient k w) = absurd (passes_or_fails i.coefficients w)
refused_once (not_unitary i u) (not_unitary j v) = refl

-- an accepted record is not refused
pub accepted_not_refused : {m : Matrix} {r : Refusal} → AcceptedRecord m → RefusedRecord m r → ⊥
accepted_not_refused a (high_exponent h) = omega (arith, a.inside.exponent)
accepted_not_refused a (wide_coefficient h w) = passes_or_fails a.inside.coefficients w
accepted_not_refused a (not_unitary i u) = u a.unitary

-- two judgements of one record are equal
pub judged_once : (m : Matrix) (a b : Result (Unit {0}) Refusal) → Judged m a → Judged m b → a ≡ b
judged_once m (Ok x) (Ok y) p q = refl
judged_once m (Ok accepted) (Err r) p q = absurd (accepted_not_refused p q)
judged_once m (Err r) (Ok accepted) p q = absurd (accepted_not_refused q p)
judged_once m (Err r) (Err s) p q = ap Err (refused_once p q)
