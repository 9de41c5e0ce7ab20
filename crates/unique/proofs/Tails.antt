-- No two of the 192 tails mean the same, phase included: brought to the exponent 1, the signs of a tail's sixteen coefficients
-- are a number, and the place of that number among the 192 is the tail's own. One test. Assumes nothing.
use mathlib.Core.Path.{◌≡◌, ap, sym, ◌∙◌}
use mathlib.Core.Bool.{Bool, true, false, ◌&&◌}
use mathlib.Core.List.{List, [], ◌∷◌}
use Prim.Native.Nat.{ℕ, zero, suc, ◌+◌, ◌*◌, ◌-◌, ◌≤◌, ◌<◌}
use native.Mathlib.Omega.{arith}
use lib.Dec.{T as Holds, eqb, eqb→eq, leb, leb→le}
use lib.IntN.{ℤ, pos, negsuc}
use Rattle.ring.specs.declared.Element.{Element}
use Rattle.ring.specs.Element.{nothing, one, omega as ω, omega2, root2, sum, multiple, turned, product, negation, root2_power}
use Rattle.ring.proofs.Ring.{product_assoc}
use Rattle.ring.proofs.Root2.{root2_power_plus, root2_power_cancel}
use Rattle.matrix.specs.declared.Matrix.{Matrix}
use Rattle.matrix.specs.Matrix.{identity, times, EqualOver, Same}
use Rattle.matrix.specs.Letter.{matrix_of, gate, gate_H, gate_S, gate_X, gate_W}
use Rattle.matrix.proofs.Test.{both}
use Rattle.form.specs.Tail.{tails, tail_text, head_text}
use Rattle.form.proofs.Every.{every, every_at}

-- a sign, as a digit
sign : ℤ → ℕ
sign (pos zero) = 0
sign (pos (suc n)) = 1
sign (negsuc n) = 2

-- four more digits
signs : ℕ → Element → ℕ
signs n x = (((n * 3 + sign x.a0) * 3 + sign x.a1) * 3 + sign x.a2) * 3 + sign x.a3

-- an element brought to the exponent 1
raised : ℕ → Element → Element
raised k x = product (root2_power (1 - k)) x

-- the number that a matrix is read as
reading : Matrix → ℕ
reading m =
    signs (signs (signs (signs 0 (raised m.exponent m.top.left)) (raised m.exponent m.top.right))
    (raised m.exponent m.bottom.left)) (raised m.exponent m.bottom.right)

tail_reading : ℕ → ℕ
tail_reading n = reading (matrix_of (tail_text n))

-- the place of a number in a list
position : ℕ → List ℕ → ℕ
position c [] = 0
position c (x ∷ xs) = elim (eqb c x) [ true ↦ 0 | false ↦ suc (position c xs) ]

-- the readings of the tails from n - k up to n
readings : ℕ → ℕ → List ℕ
readings zero n = []
readings (suc k) n = tail_reading n ∷ readings k (suc n)

told : List ℕ → ℕ → Bool
told rs n = leb (matrix_of (tail_text n)).exponent 1 && eqb (position (tail_reading n) rs) n

all_told : Holds (let rs = readings tails 0 in every tails (told rs))
unfolding every told position readings tail_reading reading raised signs sign root2_power matrix_of gate gate_H gate_S gate_X gate_W identity times tail_text head_text nothing one ω omega2 root2 sum multiple turned product negation
all_told = tt

-- elements equal over exponents up to 1 are equal once brought to the exponent 1
raised_equal : (k l : ℕ) → k ≤ 1 → l ≤ 1 → (x y : Element) → EqualOver k l x y → raised k x ≡ raised l y
unfolding raised EqualOver
raised_equal k l k_low l_low x y e =
    root2_power_cancel (k + l) (product (root2_power (1 - k)) x) (product (root2_power (1 - l)) y)
    (sym (product_assoc (root2_power (k + l)) (root2_power (1 - k)) x)
    ∙ ap (λ (r : Element). product r x) (power_sum (k + l) (1 - k) 1 l (omega arith))
    ∙ product_assoc (root2_power 1) (root2_power l) x
    ∙ ap (product (root2_power 1)) e
    ∙ sym (product_assoc (root2_power 1) (root2_power k) y)
    ∙ ap (λ (r : Element). product r y) (power_sum 1 k (k + l) (1 - l) (omega arith))
    ∙ product_assoc (root2_power (k + l)) (root2_power (1 - l)) y)
  where
    power_sum : (a b c d : ℕ) → a + b ≡ c + d → product (root2_power a) (root2_power b) ≡ product (root2_power c) (root2_power d)
    power_sum a b c d s = sym (root2_power_plus a b) ∙ ap root2_power s ∙ root2_power_plus c d

-- matrices that mean the same are read as the same number
reading_same : (m n : Matrix) → m.exponent ≤ 1 → n.exponent ≤ 1 → Same m n → reading m ≡ reading n
unfolding reading
reading_same m n m_low n_low s =
    let equal = raised_equal m.exponent n.exponent m_low n_low in
    λ i.
    signs (signs (signs (signs 0 (equal m.top.left n.top.left s.top_left i)) (equal m.top.right n.top.right s.top_right i))
    (equal m.bottom.left n.bottom.left s.bottom_left i)) (equal m.bottom.right n.bottom.right s.bottom_right i)

told_at : (n : ℕ) → n < tails → ((matrix_of (tail_text n)).exponent ≤ 1) × (position (tail_reading n) (readings tails 0) ≡ n)
unfolding told
told_at n below =
    let (low, right) = both (leb (matrix_of (tail_text n)).exponent 1) _ (every_at tails (told (readings tails 0)) all_told n below) in
    (leb→le (matrix_of (tail_text n)).exponent 1 low, eqb→eq (position (tail_reading n) (readings tails 0)) n right)

pub tails_mean_different : (m n : ℕ) → m < tails → n < tails → Same (matrix_of (tail_text m)) (matrix_of (tail_text n)) → m ≡ n
unfolding tail_reading
tails_mean_different m n m_below n_below s =
    let (m_low, m_told) = told_at m m_below in
    let (n_low, n_told) = told_at n n_below in
    sym m_told
    ∙ ap (λ (c : ℕ). position c (readings tails 0)) (reading_same (matrix_of (tail_text m)) (matrix_of (tail_text n)) m_low n_low s)
    ∙ n_told
