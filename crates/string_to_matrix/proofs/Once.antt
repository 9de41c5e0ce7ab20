-- The promise of string to matrix fixes its answer: two answers that fit it for one text are equal, as they are said and as
-- they are given. Assumes nothing.
use Prim.Native.Nat.{ℕ, ◌≤◌, ◌<◌}
use native.Mathlib.Omega.{arith}
use mathlib.Core.List.{List}
use mathlib.Core.Path.{◌≡◌, refl, ap}
use Rattle.std.specs.Prelude.{Result}
use Rattle.matrix.specs.declared.Matrix.{Matrix}
use Rattle.matrix.specs.Matrix.{LeastRecord}
use Rattle.matrix.specs.Letter.{matrix_of}
use Rattle.matrix.proofs.Least.{least_unique}
use Rattle.answer.specs.Limits.{exponent_limit}
use Rattle.answer.specs.declared.Refusal.{Refusal}
use Rattle.answer.specs.Refusal.{Said, accepted, refusal, said}
use Rattle.answer.proofs.Told.{said_told}
use Rattle.alphabet.proofs.String.{string_refused_once, string_refused_or_accepted}
use Rattle.string_to_matrix.specs.Promise.{StringToMatrix, refused_string, high_least_exponent, least_record}

-- one exponent is not both above the limit and within it
high_or_low : (text : List ℕ) {m n : Matrix} → LeastRecord (matrix_of text) m → exponent_limit < m.exponent →
    LeastRecord (matrix_of text) n → n.exponent ≤ exponent_limit → ⊥
high_or_low text {m} {n} l high k low =
    let same : m.exponent ≡ n.exponent = ap (λ (r : Matrix). r.exponent) (least_unique (matrix_of text) m n l k) in
    omega arith

-- two answers that both fit the promise are said alike
pub string_to_matrix_said_once : {text : List ℕ} {a b : Said Matrix} → StringToMatrix text a → StringToMatrix text b → a ≡ b
string_to_matrix_said_once (refused_string r) (refused_string s) = ap refusal (string_refused_once r s)
string_to_matrix_said_once (refused_string r) (high_least_exponent t l h) = absurd (string_refused_or_accepted r t)
string_to_matrix_said_once (refused_string r) (least_record t l h) = absurd (string_refused_or_accepted r t)
string_to_matrix_said_once (high_least_exponent s l h) (refused_string r) = absurd (string_refused_or_accepted r s)
string_to_matrix_said_once (high_least_exponent s l h) (high_least_exponent t k g) = refl
string_to_matrix_said_once {text} (high_least_exponent s l h) (least_record t k g) = absurd (high_or_low text l h k g)
string_to_matrix_said_once (least_record s l h) (refused_string r) = absurd (string_refused_or_accepted r s)
string_to_matrix_said_once {text} (least_record s l h) (high_least_exponent t k g) = absurd (high_or_low text k g l h)
string_to_matrix_said_once {text} (least_record {m} s l h) (least_record {m = n} t k g) = ap accepted (least_unique (matrix_of text) m n l k)

-- so the value that is returned is one
pub string_to_matrix_returns_once : (text : List ℕ) (a b : Result Matrix Refusal) → StringToMatrix text (said a) → StringToMatrix text (said b) → a ≡ b
string_to_matrix_returns_once text a b fits fits' = said_told a b (string_to_matrix_said_once fits fits')
