-- The integers are a commutative ring: the product is associative and distributes over the sum, which the library leaves out.
-- Each is an induction over the integers, up by successors and down by predecessors. Assumes nothing.
use mathlib.Core.Path.{◌≡◌, refl, sym, ◌∙◌, ap, ap₂}
use Prim.Native.Nat.{zero, suc}
use lib.IntN.{ℤ, pos, negsuc, suc_ℤ, pred_ℤ, neg_ℤ, ◌+ℤ◌, ◌-ℤ◌, ◌*ℤ◌, +ℤ_assoc, +ℤ_comm, +ℤ_idl, +ℤ_idr, +ℤ_invr, suc_ℤ-+ℤ, pred_ℤ-+ℤ, suc_ℤ-*ℤ, pred_ℤ-*ℤ, zero-*ℤ, *ℤ_comm, *ℤ-one, neg_ℤ-neg_ℤ}
use lib.IntN as Integers
use Rattle.algebra.proofs.Ring.{Ring}

-- What holds at zero, and goes on to the successor and to the predecessor, holds at every integer
pub up_and_down : (P : ℤ → Type 0) → P (pos 0) → ((k : ℤ) → P k → P (suc_ℤ k)) → ((k : ℤ) → P k → P (pred_ℤ k)) → (k : ℤ) → P k
up_and_down P base up down (pos zero) = base
up_and_down P base up down (pos (suc n)) = up (pos n) (up_and_down P base up down (pos n))
up_and_down P base up down (negsuc zero) = down (pos 0) base
up_and_down P base up down (negsuc (suc n)) = down (negsuc n) (up_and_down P base up down (negsuc n))

-- The last two of three summands, exchanged
swap_last : (a b c : ℤ) → a +ℤ b +ℤ c ≡ a +ℤ c +ℤ b
swap_last a b c = +ℤ_assoc a b c ∙ ap (λ x. a +ℤ x) (+ℤ_comm b c) ∙ sym (+ℤ_assoc a c b)

-- The product distributes over a sum in the first factor
pub sum-*ℤ : (a b c : ℤ) → (a +ℤ b) *ℤ c ≡ a *ℤ c +ℤ b *ℤ c
sum-*ℤ a b c =
    up_and_down (λ k. (k +ℤ b) *ℤ c ≡ k *ℤ c +ℤ b *ℤ c)
    (ap (λ x. x *ℤ c) (+ℤ_idl b) ∙ sym (ap (λ x. x +ℤ b *ℤ c) (zero-*ℤ c) ∙ +ℤ_idl (b *ℤ c)))
    (λ k e. ap (λ x. x *ℤ c) (suc_ℤ-+ℤ k b) ∙ suc_ℤ-*ℤ (k +ℤ b) c ∙ ap (λ x. x +ℤ c) e ∙ swap_last (k *ℤ c) (b *ℤ c) c ∙ ap (λ x. x +ℤ b *ℤ c) (sym (suc_ℤ-*ℤ k c)))
    (λ k e. ap (λ x. x *ℤ c) (pred_ℤ-+ℤ k b) ∙ pred_ℤ-*ℤ (k +ℤ b) c ∙ ap (λ x. x -ℤ c) e ∙ swap_last (k *ℤ c) (b *ℤ c) (neg_ℤ c) ∙ ap (λ x. x +ℤ b *ℤ c) (sym (pred_ℤ-*ℤ k c)))
    a

-- The product distributes over a sum in the second factor
pub *ℤ_sum : (a b c : ℤ) → a *ℤ (b +ℤ c) ≡ a *ℤ b +ℤ a *ℤ c
*ℤ_sum a b c = *ℤ_comm a (b +ℤ c) ∙ sum-*ℤ b c a ∙ ap₂ ◌+ℤ◌ (*ℤ_comm b a) (*ℤ_comm c a)

-- A sign moves out of the first factor
pub negℤ-*ℤ : (a b : ℤ) → neg_ℤ a *ℤ b ≡ neg_ℤ (a *ℤ b)
negℤ-*ℤ (pos zero) b = zero-*ℤ b ∙ sym (ap neg_ℤ (zero-*ℤ b))
negℤ-*ℤ (pos (suc n)) (pos m) = refl
negℤ-*ℤ (pos (suc n)) (negsuc m) = sym (neg_ℤ-neg_ℤ (pos (suc n) *ℤ pos (suc m)))
negℤ-*ℤ (negsuc n) (pos m) = sym (neg_ℤ-neg_ℤ (pos (suc n) *ℤ pos m))
negℤ-*ℤ (negsuc n) (negsuc m) = refl

-- The product is associative
pub *ℤ_assoc : (a b c : ℤ) → a *ℤ b *ℤ c ≡ a *ℤ (b *ℤ c)
*ℤ_assoc a b c =
    up_and_down (λ k. k *ℤ b *ℤ c ≡ k *ℤ (b *ℤ c))
    (ap (λ x. x *ℤ c) (zero-*ℤ b) ∙ zero-*ℤ c ∙ sym (zero-*ℤ (b *ℤ c)))
    (λ k e. ap (λ x. x *ℤ c) (suc_ℤ-*ℤ k b) ∙ sum-*ℤ (k *ℤ b) b c ∙ ap (λ x. x +ℤ b *ℤ c) e ∙ sym (suc_ℤ-*ℤ k (b *ℤ c)))
    (λ k e. ap (λ x. x *ℤ c) (pred_ℤ-*ℤ k b) ∙ sum-*ℤ (k *ℤ b) (neg_ℤ b) c ∙ ap₂ ◌+ℤ◌ e (negℤ-*ℤ b c) ∙ sym (pred_ℤ-*ℤ k (b *ℤ c)))
    a

-- One may be multiplied on the right
pub *ℤ_unit : (a : ℤ) → a *ℤ pos 1 ≡ a
unfolding Integers.one
*ℤ_unit a = *ℤ-one a

-- The ring of the integers, with the library's own operations
abbrev pub whole : Ring
whole = record {
  Carrier = ℤ;
  none = pos 0;
  one = pos 1;
  plus = ◌+ℤ◌;
  times = ◌*ℤ◌;
  negate = neg_ℤ;
  cast = λ m. m;
  plus_assoc = +ℤ_assoc;
  plus_comm = +ℤ_comm;
  plus_none = +ℤ_idr;
  plus_negate = +ℤ_invr;
  times_assoc = *ℤ_assoc;
  times_comm = *ℤ_comm;
  times_one = *ℤ_unit;
  times_plus = *ℤ_sum;
  cast_plus = λ m n. refl;
  cast_times = λ m n. refl;
  cast_none = refl;
  cast_one = refl;
}
