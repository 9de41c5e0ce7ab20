-- What a commutative ring is: a carrier, its operations, a cast from the integers, and their laws.
-- The laws that follow from those of the record stand below it, over any ring. Assumes nothing.
use mathlib.Core.Path.{◌≡◌, sym, ◌∙◌, ap, ap₂}
use lib.IntN.{ℤ, pos, ◌+ℤ◌, ◌*ℤ◌, neg_ℤ, +ℤ_invr}

-- A commutative ring, with the integers mapped into it
pub record Ring : Type 1 where
  pub Carrier : Type 0
  pub none : Carrier
  pub one : Carrier
  pub plus : Carrier → Carrier → Carrier
  pub times : Carrier → Carrier → Carrier
  pub negate : Carrier → Carrier
  pub cast : ℤ → Carrier
  pub plus_assoc : (a b c : Carrier) → plus (plus a b) c ≡ plus a (plus b c)
  pub plus_comm : (a b : Carrier) → plus a b ≡ plus b a
  pub plus_none : (a : Carrier) → plus a none ≡ a
  pub plus_negate : (a : Carrier) → plus a (negate a) ≡ none
  pub times_assoc : (a b c : Carrier) → times (times a b) c ≡ times a (times b c)
  pub times_comm : (a b : Carrier) → times a b ≡ times b a
  pub times_one : (a : Carrier) → times a one ≡ a
  pub times_plus : (a b c : Carrier) → times a (plus b c) ≡ plus (times a b) (times a c)
  pub cast_plus : (m n : ℤ) → cast (m +ℤ n) ≡ plus (cast m) (cast n)
  pub cast_times : (m n : ℤ) → cast (m *ℤ n) ≡ times (cast m) (cast n)
  pub cast_none : cast (pos 0) ≡ none
  pub cast_one : cast (pos 1) ≡ one

module _ (R : Ring) where
  open R use {Carrier, none, one, plus, times, negate, cast, plus_assoc, plus_comm, plus_none, plus_negate, times_assoc, times_comm, times_one, times_plus, cast_plus, cast_none}

  -- Nothing may be added on the left
  pub none_plus : (a : Carrier) → plus none a ≡ a
  none_plus a = plus_comm none a ∙ plus_none a

  -- A sum with its first summand taken away again
  pub negate_plus_cancel : (a b : Carrier) → plus (negate a) (plus a b) ≡ b
  negate_plus_cancel a b = sym (plus_assoc (negate a) a b) ∙ ap (λ x. plus x b) (plus_comm (negate a) a ∙ plus_negate a) ∙ none_plus b

  -- What is added to a and gives nothing is minus a
  pub negate_unique : (a b : Carrier) → plus a b ≡ none → b ≡ negate a
  negate_unique a b e = sym (negate_plus_cancel a b) ∙ ap (plus (negate a)) e ∙ plus_none (negate a)

  -- A summand may be cancelled on the left
  pub plus_cancel : (a b c : Carrier) → plus a b ≡ plus a c → b ≡ c
  plus_cancel a b c e = sym (negate_plus_cancel a b) ∙ ap (plus (negate a)) e ∙ negate_plus_cancel a c

  -- Two elements whose difference is nothing are equal
  pub equal_of_difference : (a b : Carrier) → plus a (negate b) ≡ none → a ≡ b
  equal_of_difference a b e = plus_cancel (negate b) a b (plus_comm (negate b) a ∙ e ∙ sym (plus_negate b) ∙ plus_comm b (negate b))

  -- Four summands, the two in the middle exchanged
  pub plus_exchange : (a b c d : Carrier) → plus (plus a b) (plus c d) ≡ plus (plus a c) (plus b d)
  plus_exchange a b c d =
      plus_assoc a b (plus c d) ∙ ap (plus a) (sym (plus_assoc b c d) ∙ ap (λ x. plus x d) (plus_comm b c) ∙ plus_assoc c b d)
      ∙ sym (plus_assoc a c (plus b d))

  -- Two summands exchanged in front of a third
  pub plus_swap : (a b c : Carrier) → plus a (plus b c) ≡ plus b (plus a c)
  plus_swap a b c = sym (plus_assoc a b c) ∙ ap (λ x. plus x c) (plus_comm a b) ∙ plus_assoc b a c

  -- Two factors exchanged in front of a third
  pub times_swap : (a b c : Carrier) → times a (times b c) ≡ times b (times a c)
  times_swap a b c = sym (times_assoc a b c) ∙ ap (λ x. times x c) (times_comm a b) ∙ times_assoc b a c

  -- Four factors, the two in the middle exchanged
  pub times_exchange : (a b c d : Carrier) → times (times a b) (times c d) ≡ times (times a c) (times b d)
  times_exchange a b c d = times_assoc a b (times c d) ∙ ap (times a) (times_swap b c d) ∙ sym (times_assoc a c (times b d))

  -- One may be multiplied on the left
  pub one_times : (a : Carrier) → times one a ≡ a
  one_times a = times_comm one a ∙ times_one a

  -- A product distributes over a sum on the left
  pub plus_times : (a b c : Carrier) → times (plus a b) c ≡ plus (times a c) (times b c)
  plus_times a b c = times_comm (plus a b) c ∙ times_plus c a b ∙ ap₂ plus (times_comm c a) (times_comm c b)

  -- A product with nothing is nothing
  pub times_none : (a : Carrier) → times a none ≡ none
  times_none a = plus_cancel (times a none) (times a none) none (sym (times_plus a none none) ∙ ap (times a) (plus_none none) ∙ sym (plus_none (times a none)))

  -- A product of nothing is nothing
  pub none_times : (a : Carrier) → times none a ≡ none
  none_times a = times_comm none a ∙ times_none a

  -- A sign moves out of the second factor
  pub times_negate : (a b : Carrier) → times a (negate b) ≡ negate (times a b)
  times_negate a b = negate_unique (times a b) (times a (negate b)) (sym (times_plus a b (negate b)) ∙ ap (times a) (plus_negate b) ∙ times_none a)

  -- A sign moves out of the first factor
  pub negate_times : (a b : Carrier) → times (negate a) b ≡ negate (times a b)
  negate_times a b = times_comm (negate a) b ∙ times_negate b a ∙ ap negate (times_comm b a)

  -- The cast keeps signs
  pub cast_negate : (m : ℤ) → cast (neg_ℤ m) ≡ negate (cast m)
  cast_negate m = negate_unique (cast m) (cast (neg_ℤ m)) (sym (cast_plus m (neg_ℤ m)) ∙ ap cast (+ℤ_invr m) ∙ cast_none)
