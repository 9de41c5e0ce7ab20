-- Source 003, Lemma 4.10, in document 01's words: on the rotation matrix of a form the least exponent is the T-count, and where
-- that is above 0 the parities of the rows tell the leftmost syllable. Assumes nothing.
use mathlib.Core.Path.{◌≡◌, ap, sym, ◌∙◌, subst}
use mathlib.Core.Bool.{Bool, true, false, true≢false}
use mathlib.Core.List.{List}
use Prim.Native.Nat.{ℕ, ◌≤◌, ◌<◌}
use native.Mathlib.Decide.{dec_lt}
use native.Mathlib.Omega.{arith}
use lib.IntN.{ℤ}
use Rattle.algebra.specs.Parity.{odd, half}
use Rattle.algebra.proofs.Parity.{odd_double, even_half}
use Rattle.matrix.specs.Letter.{matrix_of}
use Rattle.form.specs.Form.{Form}
use Rattle.form.specs.Count.{t_count}
use Rattle.form.specs.Tail.{tail_text}
use Rattle.form.proofs.Spelled.{form_is_letters}
use Rattle.rotation.specs.Rotation.{Axis, Entries, LeastExponent, Even, RowZero, Leftmost, Told}
use Rattle.rotation.specs.Vector.{unit, text_rotated}
use Rattle.rotation.proofs.Parity.{odd_at, mixed, pattern}
use Rattle.rotation.proofs.Leftmost.{leftmost_pattern, leftmost_row, odd_column, pattern_row, pattern_zero, pattern_other}
use Rattle.rotation.proofs.Entries.{text_entries, higher_entries, same_entries, least_exponent_unique}

even_of : (n : ℤ) → odd n ≡ false → Even n
even_of n e = record { half = half n; doubled = even_half n e }

odd_of_even : {n : ℤ} → Even n → odd n ≡ false
odd_of_even e = ap odd e.doubled ∙ odd_double e.half

module _ {f : List ℕ} (form : Form f) where
  -- the entries over the T-count
  entries : Entries (matrix_of f) (t_count f)
  entries = text_entries (form_is_letters form)

  -- the parity that the tail leaves in a column
  bit : Axis → Bool
  bit q = mixed (text_rotated (tail_text form.parts.tail) (unit q))

  -- the parities of those entries are told by the leftmost syllable and the tail
  parities : {row : Axis} → Leftmost form.parts row → (p q : Axis) → odd (entries.a p q) ≡ pattern row (bit q) p
  unfolding entries text_entries bit
  parities leftmost p q =
      ap (λ (text : List ℕ). odd_at (text_rotated text (unit q)) p) form.spelled
      ∙ leftmost_pattern form.parts leftmost (unit q) p

  -- where there is a T, some entry over the T-count is odd
  odd_entry : 0 < t_count f → (p : Axis) × (q : Axis) × (odd (entries.a p q) ≡ true)
  unfolding bit
  odd_entry some =
      let (row, leftmost) = leftmost_row form.parts (subst (λ (text : List ℕ). 0 < t_count text) form.spelled some) in
      let (p, other) = pattern_other row in
      let (q, mixes) = odd_column form.parts.tail form.in_tails in
      (p, q, parities leftmost p q ∙ ap (λ (b : Bool). pattern row b p) mixes ∙ other)

  -- "the least exponent equals the T-count"
  pub least_exponent_is_t_count : LeastExponent (matrix_of f) (t_count f)
  least_exponent_is_t_count = record { entries = entries; smallest = λ n e. by_order n e (dec_lt n (t_count f)) }
    where
      by_order : (n : ℕ) → Entries (matrix_of f) n → Dec (n < t_count f) → t_count f ≤ n
      by_order n e (no not_less) = omega arith
      by_order n e (yes less) =
          let (p, q, is_odd) = odd_entry (omega arith) in
          absurd (true≢false (sym is_odd ∙ higher_entries e entries less p q))

  -- so are the parities of the entries over any least exponent
  least_parities : {row : Axis} → Leftmost form.parts row → {m : ℕ} (least : LeastExponent (matrix_of f) m) (p q : Axis) →
      odd (least.entries.a p q) ≡ pattern row (bit q) p
  least_parities leftmost least p q =
      ap odd (same_entries (least_exponent_unique least least_exponent_is_t_count) least.entries entries p q) ∙ parities leftmost p q

  -- "and the parities of its rows tell the leftmost syllable"
  pub rows_tell_the_leftmost_syllable : 0 < t_count f → {m : ℕ} (least : LeastExponent (matrix_of f) m) → Told form.parts least
  unfolding RowZero bit
  rows_tell_the_leftmost_syllable some least =
      let (row, leftmost) = leftmost_row form.parts (subst (λ (text : List ℕ). 0 < t_count text) form.spelled some) in
      let (column, mixes) = odd_column form.parts.tail form.in_tails in
      record {
        row = row;
        leftmost = leftmost;
        zero = λ q. even_of (least.entries.a row q) (least_parities leftmost least row q ∙ pattern_zero row (bit q));
        only = λ other even.
            pattern_row row other
            (sym (ap (λ (b : Bool). pattern row b other) mixes) ∙ sym (least_parities leftmost least other column) ∙ odd_of_even (even column));
      }

-- source 003, Lemma 4.10
pub lemma_4_10 : {f : List ℕ} (form : Form f) →
    LeastExponent (matrix_of f) (t_count f)
    × ((m : ℕ) (least : LeastExponent (matrix_of f) m) → (m ≡ t_count f) × (0 < m → Told form.parts least))
lemma_4_10 {f} form = (
  least_exponent_is_t_count form,
  λ m least.
      let exponents : m ≡ t_count f = least_exponent_unique least (least_exponent_is_t_count form) in
      (exponents, λ some. rows_tell_the_leftmost_syllable form (omega arith) least),
)
