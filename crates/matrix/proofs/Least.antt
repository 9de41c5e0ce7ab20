-- Each record has exactly one least record, and two records are equal in meaning exactly when their least records are
-- the same. A record is least where its exponent is 0, or where √2 does not divide one of its elements. Assumes nothing.
use mathlib.Core.Path.{◌≡◌, refl, ap, sym, ◌∙◌, subst}
use mathlib.Core.List.{[], ◌∷◌}
use mathlib.Core.Logic.{◌↔◌}
use Prim.Native.Nat.{ℕ, zero, suc, ◌+◌, ◌-◌, ◌≤◌, ◌<◌}
use native.Mathlib.Omega.{arith}
use native.Mathlib.Nat.{le_antisymm}
use native.Mathlib.Decide.{dec_le}
use Rattle.algebra.proofs.Solver.{var, ◌⊗◌, solve}
use Rattle.ring.specs.declared.Element.{Element}
use Rattle.ring.specs.Element.{root2, product, root2_power}
use Rattle.ring.proofs.Ring.{elements}
use Rattle.ring.proofs.Root2.{root2_power_cancel, root2_power_plus}
use Rattle.ring.proofs.Divided.{over_root2, EvenPairs, divides, even_pairs, decide_pairs}
use Rattle.matrix.specs.declared.Matrix.{Matrix}
use Rattle.matrix.specs.Matrix.{matrix, EqualOver, Same, Least, LeastRecord}
use Rattle.matrix.proofs.Entries.{equal_entries}
use Rattle.matrix.proofs.Same.{same_refl, same_sym, same_trans, same_of_equal}

-- records of one exponent that are equal in meaning are the same record
over_one : (k : ℕ) (x y : Element) → EqualOver k k x y → x ≡ y
unfolding EqualOver
over_one k x y e = root2_power_cancel k x y e

pub same_exponent : (k : ℕ) (a b c d e f g h : Element) → Same (matrix k a b c d) (matrix k e f g h) → matrix k a b c d ≡ matrix k e f g h
same_exponent k a b c d e f g h s =
    equal_entries refl (over_one k a e s.top_left) (over_one k b f s.top_right)
    (over_one k c g s.bottom_left) (over_one k d h s.bottom_right)

pub equal_of_same : (m n : Matrix) → m.exponent ≡ n.exponent → Same m n → m ≡ n
equal_of_same m n e s =
    raised ∙ same_exponent n.exponent m.top.left m.top.right m.bottom.left m.bottom.right n.top.left n.top.right n.bottom.left n.bottom.right
    (same_trans (same_of_equal (sym raised)) s)
  where
    raised : m ≡ matrix n.exponent m.top.left m.top.right m.bottom.left m.bottom.right
    raised = equal_entries e refl refl refl refl

-- an exponent of 0 is least
pub least_at_zero : (m : Matrix) → m.exponent ≡ 0 → Least m
least_at_zero m e = record { smallest = λ n s. omega arith }

-- every element is √2 times another
pub record Divisible (m : Matrix) : Type 0 where
  pub top_left : EvenPairs m.top.left
  pub top_right : EvenPairs m.top.right
  pub bottom_left : EvenPairs m.bottom.left
  pub bottom_right : EvenPairs m.bottom.right

-- the record with its elements divided by √2, at one exponent less
unfoldable pub divided : ℕ → Matrix → Matrix
divided k m = matrix k (over_root2 m.top.left) (over_root2 m.top.right) (over_root2 m.bottom.left) (over_root2 m.bottom.right)

divided_exponent : (k : ℕ) (m : Matrix) → (divided k m).exponent ≡ k
unfolding divided
divided_exponent k m = refl

over_divided : (k : ℕ) (x : Element) → EvenPairs x → EqualOver (suc k) k x (over_root2 x)
unfolding EqualOver root2_power
over_divided k x e =
    ap (product (root2_power k)) (sym (divides x e))
    ∙ solve elements (root2_power k ∷ root2 ∷ over_root2 x ∷ []) (var 0 ⊗ (var 1 ⊗ var 2)) (var 1 ⊗ var 0 ⊗ var 2) tt

pub same_divided : (k : ℕ) (m : Matrix) → m.exponent ≡ suc k → Divisible m → Same m (divided k m)
unfolding divided
same_divided k m e v = subst (λ (n : ℕ). Same (matrix n m.top.left m.top.right m.bottom.left m.bottom.right) (divided k m)) (sym e) (record {
  top_left = over_divided k m.top.left v.top_left;
  top_right = over_divided k m.top.right v.top_right;
  bottom_left = over_divided k m.bottom.left v.bottom_left;
  bottom_right = over_divided k m.bottom.right v.bottom_right;
})

-- an element over a larger exponent that equals one over a smaller exponent is √2 times another
over_smaller : (k l : ℕ) (x y : Element) → l < k → EqualOver k l x y → EvenPairs x
unfolding EqualOver root2_power
over_smaller k l x y h e =
    let rest = product (root2_power (k - suc l)) y in
    let split : suc l + (k - suc l) ≡ k = omega arith in
    even_pairs x rest
    (root2_power_cancel l (product root2 rest) x
    (solve elements (root2_power l ∷ root2 ∷ root2_power (k - suc l) ∷ y ∷ []) (var 0 ⊗ (var 1 ⊗ (var 2 ⊗ var 3))) (var 1 ⊗ var 0 ⊗ var 2 ⊗ var 3) tt
    ∙ ap (λ (r : Element). product r y) (sym (root2_power_plus (suc l) (k - suc l)) ∙ ap root2_power split)
    ∙ sym e))

pub divisible_of_smaller : (m n : Matrix) → Same m n → n.exponent < m.exponent → Divisible m
divisible_of_smaller m n s h =
    let smaller = over_smaller m.exponent n.exponent in
    record {
      top_left = smaller m.top.left n.top.left h s.top_left;
      top_right = smaller m.top.right n.top.right h s.top_right;
      bottom_left = smaller m.bottom.left n.bottom.left h s.bottom_left;
      bottom_right = smaller m.bottom.right n.bottom.right h s.bottom_right;
    }

-- a record with an element that √2 does not divide is least
pub least_undivided : (m : Matrix) → (Divisible m → ⊥) → Least m
least_undivided m undivided = record { smallest = λ n s. at_most n s (dec_le m.exponent n.exponent) }
  where
    at_most : (n : Matrix) → Same m n → Dec (m.exponent ≤ n.exponent) → m.exponent ≤ n.exponent
    at_most n s (yes h) = h
    at_most n s (no h) = absurd (undivided (divisible_of_smaller m n s (omega arith)))

decide_divisible : (m : Matrix) → Dec (Divisible m)
decide_divisible m =
    by (decide_pairs m.top.left) (decide_pairs m.top.right) (decide_pairs m.bottom.left) (decide_pairs m.bottom.right)
  where
    by : Dec (EvenPairs m.top.left) → Dec (EvenPairs m.top.right) → Dec (EvenPairs m.bottom.left) → Dec (EvenPairs m.bottom.right) → Dec (Divisible m)
    by (yes a) (yes b) (yes c) (yes d) = yes (record { top_left = a; top_right = b; bottom_left = c; bottom_right = d })
    by (yes a) (yes b) (yes c) (no d) = no (λ (v : Divisible m). d v.bottom_right)
    by (yes a) (yes b) (no c) d = no (λ (v : Divisible m). c v.bottom_left)
    by (yes a) (no b) c d = no (λ (v : Divisible m). b v.top_right)
    by (no a) b c d = no (λ (v : Divisible m). a v.top_left)

-- each record has a least record
least_from : (k : ℕ) (m : Matrix) → m.exponent ≡ k → (r : Matrix) × LeastRecord m r
least_from zero m e = (m, record { same = same_refl m; least = least_at_zero m e })
least_from (suc k) m e = by (decide_divisible m) (least_from k (divided k m) (divided_exponent k m))
  where
    by : Dec (Divisible m) → (r : Matrix) × LeastRecord (divided k m) r → (r : Matrix) × LeastRecord m r
    by (yes v) (r, l) = (r, record { same = same_trans (same_divided k m e v) l.same; least = l.least })
    by (no u) rest = (m, record { same = same_refl m; least = least_undivided m u })

pub least_exists : (m : Matrix) → (r : Matrix) × LeastRecord m r
least_exists m = least_from m.exponent m refl

-- and only one: least records that are equal in meaning are the same
pub least_equal : (r s : Matrix) → Least r → Least s → Same r s → r ≡ s
least_equal r s l k e = equal_of_same r s (le_antisymm (l.smallest s e) (k.smallest r (same_sym e))) e

pub least_unique : (m r s : Matrix) → LeastRecord m r → LeastRecord m s → r ≡ s
least_unique m r s l k = least_equal r s l.least k.least (same_trans (same_sym l.same) k.same)

-- two records are equal in meaning exactly when their least records are the same
pub same_least : (m n r s : Matrix) → LeastRecord m r → LeastRecord n s → Same m n ↔ (r ≡ s)
same_least m n r s l k = (
  (λ (e : Same m n). least_equal r s l.least k.least (same_trans (same_sym l.same) (same_trans e k.same))),
  (λ (e : r ≡ s). same_trans l.same (same_trans (same_of_equal e) (same_sym k.same))),
)
