-- What may follow a tail's text so that it is a tail still: W up to seven, S up to three where no W stands, X once where
-- nothing stands after the head, H as the head itself or after one S. A tail's last byte tells, by one test over the
-- 192. Assumes nothing.
use Prim.Native.Nat.{ℕ, ◌-◌, ◌*◌, ◌/◌, ◌<◌}
use native.Mathlib.Omega.{arith}
use mathlib.Core.Bool.{Bool, true, false, cond, ◌&&◌}
use mathlib.Core.List.{List, [], ◌∷◌, ◌++◌}
use mathlib.Core.Path.{◌≡◌, refl, ap, ap₂, ◌∙◌}
use lib.Dec.{ltb, ltb→lt, eqb, eqb→eq, T as Holds}
use lib.ListN.{length, drop, get_or, length-append}
use borrow.Author.Tests.{ltb-true, ltb-false, ne_eqb}
use Rattle.matrix.specs.Letter.{H, S, W, X}
use Rattle.matrix.proofs.Test.{both}
use Rattle.form.specs.Tail.{tails, tail_b, tail_c, tail_a, head_text, tail_text}
use Rattle.form.proofs.Every.{every, every_at}
use Rattle.form.proofs.Grammar.{tails_distinct}

-- the tail m and one byte more is a tail
pub data Follows (m : ℕ) : ℕ → Type 0 where
  W_follows : tail_a m < 7 → Follows m W
  S_follows : tail_c m < 3 → tail_a m ≡ 0 → Follows m S
  X_follows : tail_b m ≡ 0 → tail_c m ≡ 0 → tail_a m ≡ 0 → Follows m X
  H_follows : m ≡ 0 → Follows m H
  H_after_S : m ≡ 8 → Follows m H

-- equality of texts as a test
text_eqb : List ℕ → List ℕ → Bool
text_eqb [] [] = true
text_eqb [] (y ∷ t) = false
text_eqb (x ∷ s) [] = false
text_eqb (x ∷ s) (y ∷ t) = eqb x y && text_eqb s t

text_eqb→eq : (s t : List ℕ) → Holds (text_eqb s t) → s ≡ t
unfolding text_eqb
text_eqb→eq [] [] h = refl
text_eqb→eq [] (y ∷ t) h = absurd h
text_eqb→eq (x ∷ s) [] h = absurd h
text_eqb→eq (x ∷ s) (y ∷ t) h =
    let halves = both (eqb x y) (text_eqb s t) h in
    ap₂ (λ (a : ℕ) (r : List ℕ). a ∷ r) (eqb→eq x y halves.0) (text_eqb→eq s t halves.1)

-- a text's last byte and the text before it
last_unique : (s t : List ℕ) (x y : ℕ) → s ++ (x ∷ []) ≡ t ++ (y ∷ []) → (s ≡ t) × (x ≡ y)
last_unique [] [] x y same = (refl, ap (λ (l : List ℕ). get_or l 0 0) same)
last_unique [] (b ∷ t) x y same = absurd (omega (arith, ap length same, length-append t (y ∷ [])))
last_unique (a ∷ s) [] x y same = absurd (omega (arith, ap length same, length-append s (x ∷ [])))
last_unique (a ∷ s) (b ∷ t) x y same =
    let rest = last_unique s t x y (ap (drop 1) same) in
    (ap₂ (λ (c : ℕ) (r : List ℕ). c ∷ r) (ap (λ (l : List ℕ). get_or l 0 0) same) rest.0, rest.1)

-- the last byte of a tail that is not empty, and the tail before it

last_byte : ℕ → ℕ
last_byte k = cond (ltb 0 (tail_a k)) W (cond (ltb 0 (tail_c k)) S (cond (ltb 0 (tail_b k)) X H))

before_last : ℕ → ℕ
before_last k =
    cond (ltb 0 (tail_a k)) (k - 1)
    (cond (ltb 0 (tail_c k)) (k - 8)
    (cond (ltb 0 (tail_b k)) (k - 32)
    (cond (eqb k 64) 0 8)))

ends_right : ℕ → Bool
ends_right k = cond (eqb k 0) true (ltb (before_last k) tails && text_eqb (tail_text k) (tail_text (before_last k) ++ (last_byte k ∷ [])))

all_end_right : Holds (every tails ends_right)
unfolding every ends_right before_last last_byte text_eqb tail_text head_text
all_end_right = tt

tail_ends :
    (k : ℕ) → k < tails → (k ≡ 0 → ⊥) →
    (before_last k < tails) × (tail_text k ≡ tail_text (before_last k) ++ (last_byte k ∷ []))
unfolding ends_right
tail_ends k below filled =
    let test = rw (ne_eqb k 0 filled) at (every_at tails ends_right all_end_right k below) in
    let halves = both (ltb (before_last k) tails) (text_eqb (tail_text k) (tail_text (before_last k) ++ (last_byte k ∷ []))) test in
    (ltb→lt (before_last k) tails halves.0, text_eqb→eq (tail_text k) _ halves.1)

-- the four last bytes

follows_before_last : (k : ℕ) → k < tails → (k ≡ 0 → ⊥) → Follows (before_last k) (last_byte k)
unfolding before_last last_byte
follows_before_last k below filled =
    split (ltb 0 (tail_a k)) (ltb 0 (tail_c k)) (ltb 0 (tail_b k)) (eqb k 64) refl refl refl refl
  where
    split :
        (w s x h : Bool) → ltb 0 (tail_a k) ≡ w → ltb 0 (tail_c k) ≡ s → ltb 0 (tail_b k) ≡ x → eqb k 64 ≡ h →
        Follows (cond w (k - 1) (cond s (k - 8) (cond x (k - 32) (cond h 0 8)))) (cond w W (cond s S (cond x X H)))
    split true s x h at_w at_s at_x at_h =
        let some_W = ltb-true 0 (tail_a k) at_w in
        W_follows (omega arith)
    split false true x h at_w at_s at_x at_h =
        let no_W = ltb-false 0 (tail_a k) at_w in
        let some_S = ltb-true 0 (tail_c k) at_s in
        S_follows (omega arith) (omega arith)
    split false false true h at_w at_s at_x at_h =
        let no_W = ltb-false 0 (tail_a k) at_w in
        let no_S = ltb-false 0 (tail_c k) at_s in
        let some_X = ltb-true 0 (tail_b k) at_x in
        let head_alone : k - 32 ≡ 64 * (k / 32 / 2) = omega arith in
        X_follows (omega arith) (omega arith) (omega arith)
    split false false false true at_w at_s at_x at_h = H_follows refl
    split false false false false at_w at_s at_x at_h = H_after_S refl

longer_is_filled : (m x k : ℕ) → tail_text m ++ (x ∷ []) ≡ tail_text k → k ≡ 0 → ⊥
unfolding tail_text head_text
longer_is_filled m x k same empty =
    omega (arith, ap length (same ∙ ap tail_text empty), length-append (tail_text m) (x ∷ []))

-- what a tail with one byte more says of it
pub follows : (m x k : ℕ) → m < tails → k < tails → tail_text m ++ (x ∷ []) ≡ tail_text k → Follows m x
follows m x k below below' same =
    let filled = longer_is_filled m x k same in
    let ended = tail_ends k below' filled in
    let parts = last_unique (tail_text m) (tail_text (before_last k)) x (last_byte k) (same ∙ ended.1) in
    let same_tail = tails_distinct m (before_last k) below ended.0 parts.0 in
    rw (same_tail, parts.1) (follows_before_last k below' filled)
