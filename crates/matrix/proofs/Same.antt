-- Equality in meaning is an equivalence, and products and conjugates respect it. Assumes nothing.
use mathlib.Core.Path.{◌≡◌, refl, ap, sym, ◌∙◌, subst}
use mathlib.Core.List.{[], ◌∷◌}
use Prim.Native.Nat.{ℕ, ◌+◌}
use Rattle.algebra.proofs.Solver.{var, ◌⊕◌, ◌⊗◌, combine, given, done}
use Rattle.ring.specs.declared.Element.{Element}
use Rattle.ring.specs.Element.{sum, product, conjugate, root2_power}
use Rattle.ring.proofs.Ring.{elements, conjugate_product}
use Rattle.ring.proofs.Root2.{root2_power_cancel, root2_power_plus, conjugate_root2_power}
use Rattle.matrix.specs.declared.Matrix.{Matrix}
use Rattle.matrix.specs.Matrix.{times, EqualOver, Same}

-- equality over powers of √2: an equivalence between elements over exponents
over_refl : (k : ℕ) (x : Element) → EqualOver k k x x
unfolding EqualOver
over_refl k x = refl

pub over_sym : (k l : ℕ) (x y : Element) → EqualOver k l x y → EqualOver l k y x
unfolding EqualOver
over_sym k l x y e = sym e

pub over_trans : (k l m : ℕ) (x y z : Element) → EqualOver k l x y → EqualOver l m y z → EqualOver k m x z
unfolding EqualOver
over_trans k l m x y z e f =
    root2_power_cancel l (product (root2_power m) x) (product (root2_power k) z)
    (combine elements (root2_power k ∷ root2_power l ∷ root2_power m ∷ x ∷ y ∷ z ∷ [])
    (given (var 2) (var 1 ⊗ var 3) (var 0 ⊗ var 4) e (given (var 0) (var 2 ⊗ var 4) (var 1 ⊗ var 5) f done))
    (var 1 ⊗ (var 2 ⊗ var 3)) (var 1 ⊗ (var 0 ⊗ var 5)) tt)

-- conjugates of equal entries are equal
pub over_conjugate : (k l : ℕ) (x y : Element) → EqualOver k l x y → EqualOver k l (conjugate x) (conjugate y)
unfolding EqualOver
over_conjugate k l x y e = sym (scaled l x) ∙ ap conjugate e ∙ scaled k y
  where
    scaled : (n : ℕ) (z : Element) → conjugate (product (root2_power n) z) ≡ product (root2_power n) (conjugate z)
    scaled n z = conjugate_product (root2_power n) z ∙ ap (λ (r : Element). product r (conjugate z)) (conjugate_root2_power n)

-- a row times a column, over powers of √2
over_dot : (k l k' l' : ℕ) (a b p q a' b' p' q' : Element) →
    EqualOver k k' a a' → EqualOver k k' b b' → EqualOver l l' p p' → EqualOver l l' q q' →
    EqualOver (k + l) (k' + l') (sum (product a p) (product b q)) (sum (product a' p') (product b' q'))
unfolding EqualOver
over_dot k l k' l' a b p q a' b' p' q' ea eb ep eq =
    ap (λ (r : Element). product r (sum (product a p) (product b q))) (root2_power_plus k' l')
    ∙ combine elements (root2_power k ∷ root2_power l ∷ root2_power k' ∷ root2_power l' ∷ a ∷ b ∷ p ∷ q ∷ a' ∷ b' ∷ p' ∷ q' ∷ [])
    (given (var 3 ⊗ var 6) (var 2 ⊗ var 4) (var 0 ⊗ var 8) ea
    (given (var 3 ⊗ var 7) (var 2 ⊗ var 5) (var 0 ⊗ var 9) eb
    (given (var 0 ⊗ var 8) (var 3 ⊗ var 6) (var 1 ⊗ var 10) ep
    (given (var 0 ⊗ var 9) (var 3 ⊗ var 7) (var 1 ⊗ var 11) eq done))))
    ((var 2 ⊗ var 3) ⊗ (var 4 ⊗ var 6 ⊕ var 5 ⊗ var 7)) ((var 0 ⊗ var 1) ⊗ (var 8 ⊗ var 10 ⊕ var 9 ⊗ var 11)) tt
    ∙ ap (λ (r : Element). product r (sum (product a' p') (product b' q'))) (sym (root2_power_plus k l))

pub same_refl : (m : Matrix) → Same m m
same_refl m = record {
  top_left = over_refl m.exponent m.top.left;
  top_right = over_refl m.exponent m.top.right;
  bottom_left = over_refl m.exponent m.bottom.left;
  bottom_right = over_refl m.exponent m.bottom.right;
}

-- equal records are equal in meaning
pub same_of_equal : {m n : Matrix} → m ≡ n → Same m n
same_of_equal {m} e = subst (Same m) e (same_refl m)

pub same_sym : {m n : Matrix} → Same m n → Same n m
same_sym {m} {n} s = record {
  top_left = over_sym m.exponent n.exponent m.top.left n.top.left s.top_left;
  top_right = over_sym m.exponent n.exponent m.top.right n.top.right s.top_right;
  bottom_left = over_sym m.exponent n.exponent m.bottom.left n.bottom.left s.bottom_left;
  bottom_right = over_sym m.exponent n.exponent m.bottom.right n.bottom.right s.bottom_right;
}

pub same_trans : {m n p : Matrix} → Same m n → Same n p → Same m p
same_trans {m} {n} {p} s t =
    let over = over_trans m.exponent n.exponent p.exponent in
    record {
      top_left = over m.top.left n.top.left p.top.left s.top_left t.top_left;
      top_right = over m.top.right n.top.right p.top.right s.top_right t.top_right;
      bottom_left = over m.bottom.left n.bottom.left p.bottom.left s.bottom_left t.bottom_left;
      bottom_right = over m.bottom.right n.bottom.right p.bottom.right s.bottom_right t.bottom_right;
    }

-- products respect equality in meaning
pub same_times : {m m' n n' : Matrix} → Same m m' → Same n n' → Same (times m n) (times m' n')
unfolding times
same_times {m} {m'} {n} {n'} s t =
    let dot = over_dot m.exponent n.exponent m'.exponent n'.exponent in
    record {
      top_left =
          dot m.top.left m.top.right n.top.left n.bottom.left m'.top.left m'.top.right n'.top.left n'.bottom.left
          s.top_left s.top_right t.top_left t.bottom_left;
      top_right =
          dot m.top.left m.top.right n.top.right n.bottom.right m'.top.left m'.top.right n'.top.right n'.bottom.right
          s.top_left s.top_right t.top_right t.bottom_right;
      bottom_left =
          dot m.bottom.left m.bottom.right n.top.left n.bottom.left m'.bottom.left m'.bottom.right n'.top.left n'.bottom.left
          s.bottom_left s.bottom_right t.top_left t.bottom_left;
      bottom_right =
          dot m.bottom.left m.bottom.right n.top.right n.bottom.right m'.bottom.left m'.bottom.right n'.top.right n'.bottom.right
          s.bottom_left s.bottom_right t.top_right t.bottom_right;
    }

-- a factor on one side
pub same_times_left : (p : Matrix) {m n : Matrix} → Same m n → Same (times p m) (times p n)
same_times_left p s = same_times (same_refl p) s

pub same_times_right : (p : Matrix) {m n : Matrix} → Same m n → Same (times m p) (times n p)
same_times_right p s = same_times s (same_refl p)
