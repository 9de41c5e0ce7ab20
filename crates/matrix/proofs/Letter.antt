-- What holds of each of the seven letters holds of every byte that passes the letter test. Assumes nothing.
use mathlib.Core.Path.{◌≡◌, refl, sym, subst}
use mathlib.Core.Bool.{Bool, true, false, cond}
use Prim.Native.Nat.{ℕ}
use lib.Dec.{T as Holds, eqb, eqb→eq}
use Rattle.matrix.specs.Letter.{H, S, T, W, X, Y, Z, is_letter}

module _ (P : ℕ → Type 0) (b : ℕ) where
  -- one letter tested: it is that letter, or what the other tests say holds
  or_else : (l : ℕ) → P l → (rest : Bool) → (rest ≡ true → P b) → cond (eqb b l) true rest ≡ true → P b
  or_else l at_l rest others e = by (eqb b l) refl e
    where
      by : (t : Bool) → eqb b l ≡ t → cond t true rest ≡ true → P b
      by true is e = subst P (sym (eqb→eq b l (subst Holds (sym is) tt))) at_l
      by false is e = others e

  last : (l : ℕ) → P l → eqb b l ≡ true → P b
  last l at_l e = subst P (sym (eqb→eq b l (subst Holds (sym e) tt))) at_l

  pub by_letter : P H → P S → P T → P W → P X → P Y → P Z → is_letter b ≡ true → P b
  unfolding is_letter
  by_letter h s t w x y z =
      or_else H h _ (or_else S s _ (or_else T t _ (or_else W w _ (or_else X x _ (or_else Y y _ (last Z z))))))
