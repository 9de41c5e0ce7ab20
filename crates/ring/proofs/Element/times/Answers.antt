-- `ring::Element::times` meets its contract: turning keeps the bound on the other factor, so each multiple has
-- coefficients up to 2^60 and each sum of two up to 2^61. Assumes nothing.
use mathlib.Core.Path.{◌≡◌, sym, ◌∙◌, ap, subst}
use Prim.Native.Nat.{◌^◌}
use lib.Dec.{lit≤}
use lib.IntN.{ℤ}
use Rattle.ring.specs.declared.Element.{Element}
use Rattle.ring.specs.Element.{sum, multiple, turned, product}
use Rattle.ring.specs.Bounds.{Bounded, Small, Multiplied, Factors}
use Rattle.ring.proofs.Bounds.{stored, kept, bounded_more, small_more, small_sum, small_turned, small_multiple}
use Rattle.ring.proofs.Element.times.Goals as goal

module _ {x y : Element} (f : Factors x y) where
  -- a coefficient of the first factor is read as it is
  read : {n : ℤ} → Bounded f.left n → stored n ≡ n
  read h = kept (bounded_more f.room.left_room h)

  -- a multiple of the second factor, turned or not, by such a coefficient
  may : {n : ℤ} {t : Element} → Bounded f.left n → Small f.right t → Multiplied (stored n) t
  may {n} h k = record {
    left = f.left;
    right = f.right;
    small_left = subst (Bounded f.left) (sym (read h)) h;
    small_right = k;
    room = f.room;
  }

  stays : {n : ℤ} {t r : Element} → Bounded f.left n → Small f.right t → r ≡ multiple (stored n) t → Small (2 ^ 60) r
  stays {t = t} h k e =
      subst (Small (2 ^ 60)) (sym (e ∙ ap (λ (z : ℤ). multiple z t) (read h))) (small_more f.room.room (small_multiple h k))

  turns : {t r : Element} → Small f.right t → r ≡ turned t → Small f.right r
  turns k e = subst (Small f.right) (sym e) (small_turned k)

  -- the sums of the four multiples are the product
  composed : {once twice thrice m0 m1 m2 m3 low high r : Element} → once ≡ turned y → twice ≡ turned once → thrice ≡ turned twice →
      m0 ≡ multiple (stored x.a0) y → m1 ≡ multiple (stored x.a1) once → low ≡ sum m0 m1 →
      m2 ≡ multiple (stored x.a2) twice → m3 ≡ multiple (stored x.a3) thrice → high ≡ sum m2 m3 →
      r ≡ sum low high → r ≡ product x y
  unfolding product
  composed o tw th e0 e1 l e2 e3 h e =
      cc (read f.small_left.a0, read f.small_left.a1, read f.small_left.a2, read f.small_left.a3)

wide : {x : Element} → Small (2 ^ 60) x → Small (2 ^ 61) x
wide h = small_more (lit≤ tt) h

added : {x y r : Element} → Small (2 ^ 60) x → Small (2 ^ 60) y → r ≡ sum x y → Small (2 ^ 61) r
added h k e = subst (Small (2 ^ 61)) (sym e) (small_more (lit≤ tt) (small_sum h k))

pub turned-once-requires : goal.turned-once-requires
turned-once-requires c = small_more c.requires.room.right_room c.requires.small_right

pub turned-twice-requires : goal.turned-twice-requires
turned-twice-requires c =
    let once : Small c.requires.right c.turned-once.result = turns c.requires c.requires.small_right c.turned-once.ensures in
    small_more c.requires.room.right_room once

pub turned-thrice-requires : goal.turned-thrice-requires
turned-thrice-requires c =
    let once : Small c.requires.right c.turned-once.result = turns c.requires c.requires.small_right c.turned-once.ensures in
    let twice : Small c.requires.right c.turned-twice.result = turns c.requires once c.turned-twice.ensures in
    small_more c.requires.room.right_room twice

pub multiple-requires : goal.multiple-requires
multiple-requires c = let f = c.requires in may f f.small_left.a0 f.small_right

pub multiple-requires-2 : goal.multiple-requires-2
multiple-requires-2 c =
    let once : Small c.requires.right c.turned-once.result = turns c.requires c.requires.small_right c.turned-once.ensures in
    may c.requires c.requires.small_left.a1 once

pub plus-low-requires : goal.plus-low-requires
plus-low-requires c =
    let first : Small (2 ^ 60) c.multiple.result = let f = c.requires in stays f f.small_left.a0 f.small_right c.multiple.ensures in
    let once : Small c.requires.right c.turned-once.result = turns c.requires c.requires.small_right c.turned-once.ensures in
    let second : Small (2 ^ 60) c.multiple-2.result = stays c.requires c.requires.small_left.a1 once c.multiple-2.ensures in
    record { small = wide first; small_2 = wide second }

pub multiple-requires-3 : goal.multiple-requires-3
multiple-requires-3 c =
    let once : Small c.requires.right c.turned-once.result = turns c.requires c.requires.small_right c.turned-once.ensures in
    let twice : Small c.requires.right c.turned-twice.result = turns c.requires once c.turned-twice.ensures in
    may c.requires c.requires.small_left.a2 twice

pub multiple-requires-4 : goal.multiple-requires-4
multiple-requires-4 c =
    let once : Small c.requires.right c.turned-once.result = turns c.requires c.requires.small_right c.turned-once.ensures in
    let twice : Small c.requires.right c.turned-twice.result = turns c.requires once c.turned-twice.ensures in
    let thrice : Small c.requires.right c.turned-thrice.result = turns c.requires twice c.turned-thrice.ensures in
    may c.requires c.requires.small_left.a3 thrice

pub plus-high-requires : goal.plus-high-requires
plus-high-requires c =
    let once : Small c.requires.right c.turned-once.result = turns c.requires c.requires.small_right c.turned-once.ensures in
    let twice : Small c.requires.right c.turned-twice.result = turns c.requires once c.turned-twice.ensures in
    let third : Small (2 ^ 60) c.multiple-3.result = stays c.requires c.requires.small_left.a2 twice c.multiple-3.ensures in
    let thrice : Small c.requires.right c.turned-thrice.result = turns c.requires twice c.turned-thrice.ensures in
    let fourth : Small (2 ^ 60) c.multiple-4.result = stays c.requires c.requires.small_left.a3 thrice c.multiple-4.ensures in
    record { small = wide third; small_2 = wide fourth }

pub plus-requires : goal.plus-requires
plus-requires c =
    let first : Small (2 ^ 60) c.multiple.result = let f = c.requires in stays f f.small_left.a0 f.small_right c.multiple.ensures in
    let once : Small c.requires.right c.turned-once.result = turns c.requires c.requires.small_right c.turned-once.ensures in
    let second : Small (2 ^ 60) c.multiple-2.result = stays c.requires c.requires.small_left.a1 once c.multiple-2.ensures in
    let low : Small (2 ^ 61) c.plus-low.result = added first second c.plus-low.ensures in
    let twice : Small c.requires.right c.turned-twice.result = turns c.requires once c.turned-twice.ensures in
    let third : Small (2 ^ 60) c.multiple-3.result = stays c.requires c.requires.small_left.a2 twice c.multiple-3.ensures in
    let thrice : Small c.requires.right c.turned-thrice.result = turns c.requires twice c.turned-thrice.ensures in
    let fourth : Small (2 ^ 60) c.multiple-4.result = stays c.requires c.requires.small_left.a3 thrice c.multiple-4.ensures in
    let high : Small (2 ^ 61) c.plus-high.result = added third fourth c.plus-high.ensures in
    record { small = low; small_2 = high }

pub returns : goal.returns
returns c =
    composed c.requires c.turned-once.ensures c.turned-twice.ensures c.turned-thrice.ensures
    c.multiple.ensures c.multiple-2.ensures c.plus-low.ensures
    c.multiple-3.ensures c.multiple-4.ensures c.plus-high.ensures
    c.plus.ensures
