-- A record and its exponent with its sixteen coefficients tell each other: read one way and back, nothing is lost.
-- Assumes nothing.
use Prim.Native.Nat.{ℕ, zero, suc, ◌+◌, ◌≤◌}
use native.Mathlib.Omega.{arith}
use mathlib.Core.List.{List, [], ◌∷◌}
use mathlib.Core.Path.{◌≡◌, refl, sym, ◌∙◌, ap, ap₂}
use lib.IntN.{ℤ, pos}
use lib.ListN.{length, get_or, drop, drop_of_length-le}
use lib.Seq.{drop-cons}
use Rattle.std.proofs.lemmas.List.{get_or-drop}
use Rattle.ring.proofs.Bounds.{equal_coefficients}
use Rattle.matrix.specs.declared.Matrix.{Matrix}
use Rattle.coefficients.specs.Coefficients.{coefficients, element_at, record_of}

pub sixteen : (m : Matrix) → length (coefficients m) ≡ 16
unfolding coefficients
sixteen m = refl

-- the element that stands first after some coefficients
pub element_after : (n : ℕ) (l : List ℤ) → element_at (drop n l) 0 ≡ element_at l n
element_after n l =
    let first : n + 0 ≡ n = omega arith in
    equal_coefficients (get_or-drop n l 0 (pos 0) ∙ ap (λ (i : ℕ). get_or l i (pos 0)) first) (get_or-drop n l 1 (pos 0)) (get_or-drop n l 2 (pos 0)) (get_or-drop n l 3 (pos 0))

pub record_read_back : (m : Matrix) → record_of m.exponent (coefficients m) ≡ m
unfolding record_of coefficients
record_read_back m = refl

-- a list, place by place
abbrev from : ℕ → ℕ → List ℤ → List ℤ
from zero i l = []
from (suc n) i l = get_or l i (pos 0) ∷ from n (suc i) l

from_place : (n i : ℕ) (l : List ℤ) → length l ≡ i + n → from n i l ≡ drop i l
from_place zero i l e = let end : length l ≤ i = omega arith in sym (drop_of_length-le l end)
from_place (suc n) i l e =
    ap (λ (s : List ℤ). get_or l i (pos 0) ∷ s) (from_place n (suc i) l (omega arith)) ∙ sym (drop-cons l i (pos 0) (omega arith))

pub coefficients_read_back : (k : ℕ) (l : List ℤ) → length l ≡ 16 → coefficients (record_of k l) ≡ l
unfolding record_of coefficients
coefficients_read_back k l e = from_place 16 0 l e

-- exponent and coefficients tell the record
pub coefficients_once : (m n : Matrix) → m.exponent ≡ n.exponent → coefficients m ≡ coefficients n → m ≡ n
coefficients_once m n k e = sym (record_read_back m) ∙ ap₂ record_of k e ∙ record_read_back n
