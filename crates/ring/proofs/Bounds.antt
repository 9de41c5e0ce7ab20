-- Sums, differences and products of machine integers: where the bounds on the parts keep each partial result below 2^63,
-- nothing wraps and the machine's number is the whole number. With it, bounds on what the ring's operations give.
-- Assumes nothing.
use mathlib.Core.Path.{◌≡◌, refl, sym, ◌∙◌, ap, ap₂, subst}
use mathlib.Core.Bool.{Bool, true, false, cond}
use Prim.Native.Nat.{ℕ, zero, suc, ◌+◌, ◌-◌, ◌*◌, ◌^◌, ◌≤◌, ◌<◌}
use native.Mathlib.Nat.{le_trans, mul-le-mul}
use native.Mathlib.Omega.{arith}
use borrow.Author.Tests.{ltb-true}
use lib.Dec.{leb, ltb, lit≤, lit<, T as Holds}
use lib.IntN.{ℤ, pos, negsuc, ◌+ℤ◌, ◌-ℤ◌, ◌*ℤ◌, neg_ℤ, nat_abs, sub_ℕ, +ℤ_idl}
use lib.Signed.{mag}
use mir.Syntax.{w64}
use mir.Val.{SFits, of_z, to_z}
use mir.Facts.{to_z-of_z}
use Rattle.algebra.proofs.Cancellation.{size_times}
use Rattle.ring.specs.declared.Element.{Element}
use Rattle.ring.specs.Element.{element, sum, negation, multiple, turned, product, conjugate}
use Rattle.ring.specs.Bounds.{Bounded, Small, Room, Factors}

-- ---- the size of sums, differences and products
size_difference : (a b : ℕ) → nat_abs (sub_ℕ a b) ≤ a + b
size_difference a b = by (ltb a b) refl
  where
    by : (test : Bool) → ltb a b ≡ test → nat_abs (cond test (negsuc (b - suc a)) (pos (a - b))) ≤ a + b
    by true e = let below : a < b = ltb-true a b e in omega arith
    by false e = omega arith

size_sum : (x y : ℤ) → nat_abs (x +ℤ y) ≤ nat_abs x + nat_abs y
size_sum (pos a) (pos b) = omega arith
size_sum (pos a) (negsuc b) = size_difference a (suc b)
size_sum (negsuc a) (pos b) = omega (arith, size_difference b (suc a))
size_sum (negsuc a) (negsuc b) = omega arith

size_negation : (x : ℤ) → nat_abs (neg_ℤ x) ≡ nat_abs x
size_negation (pos zero) = refl
size_negation (pos (suc n)) = refl
size_negation (negsuc n) = refl

pub bounded_sum : {b c : ℕ} {x y : ℤ} → Bounded b x → Bounded c y → Bounded (b + c) (x +ℤ y)
bounded_sum {b} {c} {x} {y} h k = record { size = omega (arith, size_sum x y, h.size, k.size) }

pub bounded_negation : {b : ℕ} {x : ℤ} → Bounded b x → Bounded b (neg_ℤ x)
bounded_negation {b} {x} h = record { size = omega (arith, size_negation x, h.size) }

pub bounded_product : {b c : ℕ} {x y : ℤ} → Bounded b x → Bounded c y → Bounded (b * c) (x *ℤ y)
bounded_product {b} {c} {x} {y} h k =
    record { size = subst (λ (n : ℕ). n ≤ b * c) (sym (size_times x y)) (mul-le-mul h.size k.size) }

-- ---- what the machine computes
-- a formula over numbers with known bounds
pub data Formula : Type 0 where
  known : {bound : ℕ} {z : ℤ} → Bounded bound z → Formula
  number : ℤ → Formula
  ◌⊞◌ : Formula → Formula → Formula
  ◌⊟◌ : Formula → Formula → Formula
  ◌⊠◌ : Formula → Formula → Formula

infixl 6 ◌⊞◌ ◌⊟◌
infixl 7 ◌⊠◌
-- its whole number
abbrev pub value : Formula → ℤ
value (known {z = z} h) = z
value (number z) = z
value (f ⊞ g) = value f +ℤ value g
value (f ⊟ g) = value f -ℤ value g
value (f ⊠ g) = value f *ℤ value g

-- a number as 64 bits hold it
abbrev pub stored : ℤ → ℤ
stored z = to_z w64 (of_z w64 z)

-- the number that the machine computes, before it is stored
abbrev pub machine : Formula → ℤ
machine (known {z = z} h) = z
machine (number z) = z
machine (f ⊞ g) = stored (machine f) +ℤ stored (machine g)
machine (f ⊟ g) = stored (machine f) -ℤ stored (machine g)
machine (f ⊠ g) = stored (machine f) *ℤ stored (machine g)

-- a bound on it
abbrev pub bound : Formula → ℕ
bound (known {bound = b} h) = b
bound (number z) = nat_abs z
bound (f ⊞ g) = bound f + bound g
bound (f ⊟ g) = bound f + bound g
bound (f ⊠ g) = bound f * bound g

-- each partial result stays below 2^63
abbrev pub Inside : Formula → Type 0
Inside (known {bound = b} h) = b < 2 ^ 63
Inside (number z) = nat_abs z < 2 ^ 63
Inside (f ⊞ g) = Inside f × Inside g × (bound f + bound g < 2 ^ 63)
Inside (f ⊟ g) = Inside f × Inside g × (bound f + bound g < 2 ^ 63)
Inside (f ⊠ g) = Inside f × Inside g × (bound f * bound g < 2 ^ 63)

-- the whole number is within the bound
pub bounded : (f : Formula) → Bounded (bound f) (value f)
bounded (known h) = h
bounded (number z) = record { size = omega arith }
bounded (f ⊞ g) = bounded_sum (bounded f) (bounded g)
bounded (f ⊟ g) = bounded_sum (bounded f) (bounded_negation (bounded g))
bounded (f ⊠ g) = bounded_product (bounded f) (bounded g)

below : (f : Formula) → Inside f → bound f < 2 ^ 63
below (known h) i = i
below (number z) i = i
below (f ⊞ g) i = i.2
below (f ⊟ g) i = i.2
below (f ⊠ g) i = i.2

mag_size : (z : ℤ) → mag z ≤ nat_abs z
mag_size (pos n) = omega arith
mag_size (negsuc n) = omega arith

-- a number of size below 2^63 fits
pub bounded_fits : {b : ℕ} {z : ℤ} → Bounded b z → b < 2 ^ 63 → SFits w64 z
bounded_fits {b} {z} h l = record { sfits = omega (arith, mag_size z, h.size) }

value_fits : (f : Formula) → Inside f → SFits w64 (value f)
value_fits f i = bounded_fits (bounded f) (below f i)

-- a machine's number that is a whole number which fits stays so when it is stored
keeps : {m z : ℤ} → m ≡ z → SFits w64 z → stored m ≡ z
keeps e h = ap stored e ∙ to_z-of_z h

-- the machine's number is the whole number
pub exact : (f : Formula) → Inside f → machine f ≡ value f
exact (known h) i = refl
exact (number z) i = refl
exact (f ⊞ g) i = ap₂ ◌+ℤ◌ (keeps (exact f i.0) (value_fits f i.0)) (keeps (exact g i.1) (value_fits g i.1))
exact (f ⊟ g) i = ap₂ ◌-ℤ◌ (keeps (exact f i.0) (value_fits f i.0)) (keeps (exact g i.1) (value_fits g i.1))
exact (f ⊠ g) i = ap₂ ◌*ℤ◌ (keeps (exact f i.0) (value_fits f i.0)) (keeps (exact g i.1) (value_fits g i.1))

-- also when it is stored
pub exact_stored : (f : Formula) → Inside f → stored (machine f) ≡ value f
exact_stored f i = keeps (exact f i) (value_fits f i)

-- and it fits
pub fits : (f : Formula) → Inside f → SFits w64 (machine f)
fits f i = subst (SFits w64) (sym (exact f i)) (value_fits f i)

-- numbers that fit are equal where their bits are
pub same_bits : {x y : ℤ} → SFits w64 x → SFits w64 y → of_z w64 x ≡ of_z w64 y → x ≡ y
same_bits f g e = sym (to_z-of_z f) ∙ ap (to_z w64) e ∙ to_z-of_z g

-- ---- the operations of the ring's code: sums and changes of sign at 2^61
module _ {x y : ℤ} (h : Bounded (2 ^ 61) x) (k : Bounded (2 ^ 61) y) where
  pub sum_fits : SFits w64 (stored x +ℤ stored y)
  sum_fits = fits (known h ⊞ known k) (lit< tt, lit< tt, lit< tt)

  pub sum_exact : stored (stored x +ℤ stored y) ≡ x +ℤ y
  sum_exact = exact_stored (known h ⊞ known k) (lit< tt, lit< tt, lit< tt)

module _ {x : ℤ} (h : Bounded (2 ^ 61) x) where
  pub kept : stored x ≡ x
  kept = exact_stored (known h) (lit< tt)

  pub negation_fits : SFits w64 (pos 0 -ℤ stored x)
  negation_fits = fits (number (pos 0) ⊟ known h) (lit< tt, lit< tt, lit< tt)

  pub negation_exact : stored (pos 0 -ℤ stored x) ≡ neg_ℤ x
  negation_exact = exact_stored (number (pos 0) ⊟ known h) (lit< tt, lit< tt, lit< tt) ∙ +ℤ_idl (neg_ℤ x)

module _ {n x : ℤ} {left right : ℕ} (h : Bounded left n) (k : Bounded right x) (r : Room left right) where
  inside : Inside (known h ⊠ known k)
  inside = (omega (arith, r.left_room), omega (arith, r.right_room), omega (arith, r.room))

  pub product_fits : SFits w64 (stored n *ℤ stored x)
  product_fits = fits (known h ⊠ known k) inside

  pub product_exact : stored (stored n *ℤ stored x) ≡ n *ℤ x
  product_exact = exact_stored (known h ⊠ known k) inside

-- elements with equal coefficients are equal
pub equal_coefficients : {a b c d a' b' c' d' : ℤ} → a ≡ a' → b ≡ b' → c ≡ c' → d ≡ d' → element a b c d ≡ element a' b' c' d'
equal_coefficients p q r s = λ i. element (p i) (q i) (r i) (s i)

-- ---- the size of what the ring's operations give
pub bounded_more : {b c : ℕ} {z : ℤ} → b ≤ c → Bounded b z → Bounded c z
bounded_more l h = record { size = le_trans h.size l }

pub small_more : {b c : ℕ} {x : Element} → b ≤ c → Small b x → Small c x
small_more l h = record {
  a0 = bounded_more l h.a0;
  a1 = bounded_more l h.a1;
  a2 = bounded_more l h.a2;
  a3 = bounded_more l h.a3;
}

pub small_sum : {b c : ℕ} {x y : Element} → Small b x → Small c y → Small (b + c) (sum x y)
unfolding sum
small_sum h k = record {
  a0 = bounded_sum h.a0 k.a0;
  a1 = bounded_sum h.a1 k.a1;
  a2 = bounded_sum h.a2 k.a2;
  a3 = bounded_sum h.a3 k.a3;
}

pub small_negation : {b : ℕ} {x : Element} → Small b x → Small b (negation x)
unfolding negation
small_negation h = record {
  a0 = bounded_negation h.a0;
  a1 = bounded_negation h.a1;
  a2 = bounded_negation h.a2;
  a3 = bounded_negation h.a3;
}

-- what was negated leaves the room that it had
pub small_negated : {b : ℕ} {x r : Element} → r ≡ negation x → Small b x → Small b r
small_negated {b} e h = subst (Small b) (sym e) (small_negation h)

pub small_turned : {b : ℕ} {x : Element} → Small b x → Small b (turned x)
unfolding turned
small_turned h = record { a0 = bounded_negation h.a3; a1 = h.a0; a2 = h.a1; a3 = h.a2 }

pub small_conjugate : {b : ℕ} {x : Element} → Small b x → Small b (conjugate x)
unfolding conjugate
small_conjugate h = record {
  a0 = h.a0;
  a1 = bounded_negation h.a3;
  a2 = bounded_negation h.a2;
  a3 = bounded_negation h.a1;
}

pub small_multiple : {b c : ℕ} {n : ℤ} {x : Element} → Bounded b n → Small c x → Small (b * c) (multiple n x)
unfolding multiple
small_multiple h k = record {
  a0 = bounded_product h k.a0;
  a1 = bounded_product h k.a1;
  a2 = bounded_product h k.a2;
  a3 = bounded_product h k.a3;
}

pub small_product : {b c : ℕ} {x y : Element} → Small b x → Small c y → Small (4 * (b * c)) (product x y)
unfolding product
small_product {b} {c} h k =
    small_more (omega arith)
    (small_sum
    (small_sum (small_multiple h.a0 k) (small_multiple h.a1 (small_turned k)))
    (small_sum (small_multiple h.a2 (small_turned (small_turned k))) (small_multiple h.a3 (small_turned (small_turned (small_turned k))))))

-- ---- the fixed elements, whose coefficients are −1, 0 or 1, and what they multiply
pub fixed : {x : Element} →
    Holds (leb (nat_abs x.a0) 1) × Holds (leb (nat_abs x.a1) 1) × Holds (leb (nat_abs x.a2) 1) × Holds (leb (nat_abs x.a3) 1) → Small 1 x
fixed h = record {
  a0 = record { size = lit≤ h.0 };
  a1 = record { size = lit≤ h.1 };
  a2 = record { size = lit≤ h.2 };
  a3 = record { size = lit≤ h.3 };
}

-- two bounds that are numerals
pub numeral_room : {b c : ℕ} → Holds (leb b (2 ^ 61)) × Holds (leb c (2 ^ 61)) × Holds (leb (b * c) (2 ^ 60)) → Room b c
numeral_room h = record { left_room = lit≤ h.0; right_room = lit≤ h.1; room = lit≤ h.2 }

pub fixed_factor : {x y : Element} → Small 1 x → Small (2 ^ 60) y → Factors x y
fixed_factor h k = record {
  left = 1;
  right = 2 ^ 60;
  small_left = h;
  small_right = k;
  room = numeral_room (tt, tt, tt);
}

-- ---- elements within one bound, and the product of one with the conjugate of another
pub conjugate_factor : {b : ℕ} {x y r : Element} → Room b b → Small b x → Small b y → r ≡ conjugate y → Factors x r
conjugate_factor {b} room h k e = record {
  left = b;
  right = b;
  small_left = h;
  small_right = subst (Small b) (sym e) (small_conjugate k);
  room = room;
}

pub small_conjugate_product : {b : ℕ} {x y c r : Element} → Small b x → Small b y → c ≡ conjugate y → r ≡ product x c → Small (4 * (b * b)) r
small_conjugate_product {b} {x} h k e f =
    subst (Small (4 * (b * b))) (sym (f ∙ ap (product x) e)) (small_product h (small_conjugate k))
