-- The entries of a record inside the limits are small, and so are the products of its columns. Assumes nothing.
use Prim.Native.Nat.{◌^◌}
use mathlib.Core.List.{List, ◌∷◌}
use lib.Dec.{lit≤}
use lib.IntN.{ℤ}
use Rattle.lists.proofs.List.{every_first, every_rest}
use Rattle.ring.specs.declared.Element.{Element}
use Rattle.ring.specs.Bounds.{Bounded, Small}
use Rattle.ring.proofs.Bounds.{small_more, small_sum, small_conjugate, small_product}
use Rattle.matrix.specs.declared.Matrix.{Matrix}
use Rattle.answer.specs.Limits.{coefficient_limit}
use Rattle.accept_record.specs.Accept.{InLimits, Inside}
use Rattle.coefficients.specs.Coefficients.{coefficients}
use Rattle.matrix.specs.Matrix.{column_product}
use Rattle.accept_record.proofs.Limits.{bounded_in_limit}

-- the products of columns
pub small_column_product : {x y u v : Element} →
    Small coefficient_limit x → Small coefficient_limit y → Small coefficient_limit u → Small coefficient_limit v →
    Small (2 ^ 61) (column_product x y u v)
small_column_product hx hy hu hv =
    small_more (lit≤ tt) (small_sum (small_product hx (small_conjugate hu)) (small_product hy (small_conjugate hv)))

-- the entries of a record inside the limits
pub record SmallEntries (m : Matrix) : Type 0 where
  pub top_left : Small coefficient_limit m.top.left
  pub top_right : Small coefficient_limit m.top.right
  pub bottom_left : Small coefficient_limit m.bottom.left
  pub bottom_right : Small coefficient_limit m.bottom.right

head_small : {z : ℤ} {rest : List ℤ} → InLimits (z ∷ rest) → Bounded coefficient_limit z
head_small {z} h = bounded_in_limit z (every_first h)

-- the element that stands first in a list of coefficients, and what follows it
first_small : {x : Element} {rest : List ℤ} → InLimits (x.a0 ∷ x.a1 ∷ x.a2 ∷ x.a3 ∷ rest) → Small coefficient_limit x
first_small h = record {
  a0 = head_small h;
  a1 = head_small (every_rest h);
  a2 = head_small (every_rest (every_rest h));
  a3 = head_small (every_rest (every_rest (every_rest h)));
}

rest_small : {a b c d : ℤ} {rest : List ℤ} → InLimits (a ∷ b ∷ c ∷ d ∷ rest) → InLimits rest
rest_small h = every_rest (every_rest (every_rest (every_rest h)))

pub small_entries : (m : Matrix) → Inside m → SmallEntries m
unfolding coefficients
small_entries m i =
    let second = rest_small i.coefficients in
    let third = rest_small second in
    record {
      top_left = first_small i.coefficients;
      top_right = first_small second;
      bottom_left = first_small third;
      bottom_right = first_small (rest_small third);
    }
