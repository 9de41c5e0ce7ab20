-- Document 01, "Numbers and matrices": matrix records, equality in meaning, the least record, and what unitary means.
use Rattle.std.specs.Prelude.{ℕ, ◌+◌, ◌≤◌, ◌^◌, ◌≡◌, pos, ◌+ℤ◌}
use Rattle.ring.specs.declared.Element.{Element}
use Rattle.ring.specs.Element.{nothing, one, sum, product, conjugate, size_whole, size_root2, root2_power}
use Rattle.matrix.specs.declared.Matrix.{Matrix}

-- "A matrix is an unsigned exponent k and four ring elements, top left, top right, bottom left, bottom right;
-- each entry is its element divided by (√2)^k."
abbrev pub matrix : ℕ → Element → Element → Element → Element → Matrix
matrix k a b c d = record { exponent = k; top = record { left = a; right = b }; bottom = record { left = c; right = d } }

-- an element over (√2)^k is an element over (√2)^l: both brought to (√2)^(k + l)
unfoldable pub EqualOver : ℕ → ℕ → Element → Element → Type 0
EqualOver k l x y = product (root2_power l) x ≡ product (root2_power k) y

-- "Two records are equal in meaning when the entries are equal."
pub record Same (m n : Matrix) : Type 0 where
  pub top_left : EqualOver m.exponent n.exponent m.top.left n.top.left
  pub top_right : EqualOver m.exponent n.exponent m.top.right n.top.right
  pub bottom_left : EqualOver m.exponent n.exponent m.bottom.left n.bottom.left
  pub bottom_right : EqualOver m.exponent n.exponent m.bottom.right n.bottom.right

-- "The least record has the smallest k from 0 up": no record of the same meaning has a smaller one.
pub record Least (m : Matrix) : Type 0 where
  pub smallest : (n : Matrix) → Same m n → m.exponent ≤ n.exponent

-- r is the least record of m
pub record LeastRecord (m r : Matrix) : Type 0 where
  pub same : Same m r
  pub least : Least r

unfoldable pub identity : Matrix
identity = matrix 0 one nothing nothing one

-- the product of two matrices, row by column; the exponents add
unfoldable pub times : Matrix → Matrix → Matrix
times m n =
    matrix (m.exponent + n.exponent)
    (sum (product m.top.left n.top.left) (product m.top.right n.bottom.left))
    (sum (product m.top.left n.top.right) (product m.top.right n.bottom.right))
    (sum (product m.bottom.left n.top.left) (product m.bottom.right n.bottom.left))
    (sum (product m.bottom.left n.top.right) (product m.bottom.right n.bottom.right))

-- the conjugate transpose
unfoldable pub adjoint : Matrix → Matrix
adjoint m =
    matrix m.exponent
    (conjugate m.top.left) (conjugate m.bottom.left)
    (conjugate m.top.right) (conjugate m.bottom.right)

-- a column (x, y) times the conjugate of another, (u, v)
abbrev pub column_product : Element → Element → Element → Element → Element
column_product x y u v = sum (product x (conjugate u)) (product y (conjugate v))

-- "Unitary means eight whole-number equations: each column's squared sizes sum to 2^k with no √2 part, and the product
-- of one column with the conjugate of the other is zero in all four places."
pub record Unitary (m : Matrix) : Type 0 where
  pub left_whole : size_whole m.top.left +ℤ size_whole m.bottom.left ≡ pos (2 ^ m.exponent)
  pub left_root2 : size_root2 m.top.left +ℤ size_root2 m.bottom.left ≡ pos 0
  pub right_whole : size_whole m.top.right +ℤ size_whole m.bottom.right ≡ pos (2 ^ m.exponent)
  pub right_root2 : size_root2 m.top.right +ℤ size_root2 m.bottom.right ≡ pos 0
  pub columns : column_product m.top.left m.bottom.left m.top.right m.bottom.right ≡ nothing
