-- Document 01, "The form", its last paragraphs: the rotation matrix of a record, the least exponent of its entries, their
-- parities, and the row that tells the leftmost syllable of a form.
use Rattle.std.specs.Prelude.{ℕ, ◌+◌, ◌≤◌, true, false, List, ◌∷◌, ◌≡◌, ℤ, ◌+ℤ◌}
use Rattle.ring.specs.declared.Element.{Element}
use Rattle.ring.specs.Element.{one, root2, sum, multiple}
use Rattle.matrix.specs.declared.Matrix.{Matrix}
use Rattle.matrix.specs.Matrix.{times, adjoint, EqualOver}
use Rattle.matrix.specs.Letter.{gate_X, gate_Y, gate_Z}
use Rattle.form.specs.Form.{Syllable, HT, SHT, Parts}

-- "rows and columns in the order X, Y, Z"
pub data Axis : Type 0 where
  axis_X : Axis
  axis_Y : Axis
  axis_Z : Axis

unfoldable pub axis_gate : Axis → Matrix
axis_gate axis_X = gate_X
axis_gate axis_Y = gate_Y
axis_gate axis_Z = gate_Z

-- P·U·Q·U†
unfoldable pub row_column : Matrix → Axis → Axis → Matrix
row_column u p q = times (axis_gate p) (times u (times (axis_gate q) (adjoint u)))

-- the trace, over the matrix's power of √2
unfoldable pub trace : Matrix → Element
trace m = sum m.top.left m.bottom.right

-- a + b√2
unfoldable pub surd : ℤ → ℤ → Element
surd a b = sum (multiple a one) (multiple b root2)

-- "the entry at row P, column Q is half the trace of P·U·Q·U†": the half is two more powers of √2 below.
-- "Each entry is (a + b√2)/(√2)^m with whole a and b."
unfoldable pub Entry : Matrix → Axis → Axis → ℕ → ℤ → ℤ → Type 0
Entry u p q m a b = EqualOver ((row_column u p q).exponent + 2) m (trace (row_column u p q)) (surd a b)

-- the exponent m serves all nine entries, with these numerators
pub record Entries (u : Matrix) (m : ℕ) : Type 0 where
  pub a : Axis → Axis → ℤ
  pub b : Axis → Axis → ℤ
  pub entry : (p q : Axis) → Entry u p q m (a p q) (b p q)

-- "the least exponent that serves all nine entries"
pub record LeastExponent (u : Matrix) (m : ℕ) : Type 0 where
  pub entries : Entries u m
  pub smallest : (n : ℕ) → Entries u n → m ≤ n

pub record Even (n : ℤ) : Type 0 where
  pub half : ℤ
  pub doubled : n ≡ half +ℤ half

-- a row is zero: "its parity is that of a, with m the least exponent"
unfoldable pub RowZero : {u : Matrix} {m : ℕ} → LeastExponent u m → Axis → Type 0
RowZero least row = (column : Axis) → Even (least.entries.a row column)

-- "third row zero for T, first row zero for HT, second row zero for SHT": the row of a form's leftmost syllable
pub data Leftmost (parts : Parts) : Axis → Type 0 where
  third_for_T : parts.front ≡ true → Leftmost parts axis_Z
  first_for_HT : {rest : List Syllable} → parts.front ≡ false → parts.syllables ≡ HT ∷ rest → Leftmost parts axis_X
  second_for_SHT : {rest : List Syllable} → parts.front ≡ false → parts.syllables ≡ SHT ∷ rest → Leftmost parts axis_Y

-- "the parities of its rows tell the leftmost syllable": its row is zero, and no other row is
pub record Told (parts : Parts) {u : Matrix} {m : ℕ} (least : LeastExponent u m) : Type 0 where
  pub row : Axis
  pub leftmost : Leftmost parts row
  pub zero : RowZero least row
  pub only : (other : Axis) → RowZero least other → other ≡ row
