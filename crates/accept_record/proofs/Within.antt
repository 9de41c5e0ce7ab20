-- "No unitary matrix in the exponent limit breaks the coefficient limit." Assumes nothing.
use mathlib.Core.Path.{◌≡◌, ap}
use mathlib.Core.Bool.{Bool, true, ◌&&◌}
use mathlib.Core.List.{List, ◌∷◌}
use Prim.Native.Nat.{◌≤◌}
use native.Mathlib.Omega.{arith}
use borrow.Author.Tests.{le-leb}
use lib.IntN.{ℤ, pos, negsuc}
use Rattle.lists.specs.List.{none, more}
use Rattle.ring.specs.declared.Element.{Element}
use Rattle.ring.specs.Bounds.{Bounded, Small}
use Rattle.matrix.specs.declared.Matrix.{Matrix}
use Rattle.matrix.specs.Matrix.{Unitary}
use Rattle.matrix.proofs.Small.{unitary_is_small}
use Rattle.answer.specs.Limits.{exponent_limit, coefficient_limit}
use Rattle.coefficients.specs.Coefficients.{coefficients}
use Rattle.accept_record.specs.Accept.{in_limit, InLimits, Inside}

-- a number that is bounded by the limit is in it
in_limit_bounded : (z : ℤ) → Bounded coefficient_limit z → in_limit z ≡ true
unfolding in_limit
in_limit_bounded (pos n) h = le-leb n coefficient_limit h.size
in_limit_bounded (negsuc n) h = ap (λ (t : Bool). t && true) (le-leb n _ (omega (arith, h.size)))

-- the coefficients of a small element, in front of others in the limits
element_in_limits : {x : Element} {rest : List ℤ} → Small coefficient_limit x → InLimits rest → InLimits (x.a0 ∷ x.a1 ∷ x.a2 ∷ x.a3 ∷ rest)
element_in_limits {x} s rest =
    more (in_limit_bounded x.a0 s.a0) (more (in_limit_bounded x.a1 s.a1) (more (in_limit_bounded x.a2 s.a2) (more (in_limit_bounded x.a3 s.a3) rest)))

pub unitary_within_limits : {m : Matrix} → m.exponent ≤ exponent_limit → Unitary m → Inside m
unfolding coefficients
unitary_within_limits low u =
    let small = unitary_is_small 20 u low in
    record {
      exponent = low;
      coefficients =
          element_in_limits small.top_left
          (element_in_limits small.top_right (element_in_limits small.bottom_left (element_in_limits small.bottom_right none)));
    }
