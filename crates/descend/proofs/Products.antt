-- The products of a record's first column have room, and an element times its conjugate is its squared size.
-- Assumes nothing.
use mathlib.Core.Path.{◌≡◌, sym, ◌∙◌, ap, ap₂, subst}
use Prim.Native.Nat.{◌^◌}
use lib.Dec.{lit≤}
use lib.IntN.{ℤ, ◌+ℤ◌, ◌-ℤ◌}
use Rattle.ring.specs.declared.Element.{Element}
use Rattle.ring.specs.Element.{sum, negation, product, conjugate, size_whole, size_root2}
use Rattle.ring.specs.Bounds.{Bounded, Small}
use Rattle.ring.specs.Number.{RoomyNumber}
use Rattle.ring.proofs.Bounds.{stored, kept, sum_exact, bounded_sum, bounded_negation, bounded_more, small_more, small_negation, small_sum}
use Rattle.ring.proofs.Halves.{difference_exact}
use Rattle.ring.specs.Real.{number, real}
use Rattle.complete.proofs.Unit.{size_real}

pub roomy : {r : Element} → Small (2 ^ 60) r → Small (2 ^ 61) r
roomy s = small_more (lit≤ tt) s

-- a sum and a difference of numbers that small leave room
roomy_sum : {x y : ℤ} → Bounded (2 ^ 60) x → Bounded (2 ^ 60) y → Bounded (2 ^ 61) (stored (stored x +ℤ stored y))
roomy_sum h k = subst (Bounded (2 ^ 61)) (sym (sum_exact (bounded_more (lit≤ tt) h) (bounded_more (lit≤ tt) k))) (bounded_sum h k)

roomy_difference : {x y : ℤ} → Bounded (2 ^ 60) x → Bounded (2 ^ 60) y → Bounded (2 ^ 61) (stored (stored x -ℤ stored y))
roomy_difference h k =
    subst (Bounded (2 ^ 61)) (sym (difference_exact (bounded_more (lit≤ tt) h) (bounded_more (lit≤ tt) k)))
    (bounded_sum h (bounded_negation k))

pub roomy_x : {p : Element} → Small (2 ^ 60) p → RoomyNumber (number (stored (stored p.a0 +ℤ stored p.a0)) (stored (stored p.a1 -ℤ stored p.a3)))
roomy_x s = record { whole = roomy_sum s.a0 s.a0; root2 = roomy_difference s.a1 s.a3 }

pub roomy_y : {p : Element} → Small (2 ^ 60) p → RoomyNumber (number (stored (stored p.a2 +ℤ stored p.a2)) (stored (stored p.a1 +ℤ stored p.a3)))
roomy_y s = record { whole = roomy_sum s.a2 s.a2; root2 = roomy_sum s.a1 s.a3 }

-- and so do the parts of an element
pub roomy_z : {z : Element} → Small (2 ^ 61) z → RoomyNumber (number (stored z.a0) (stored z.a1))
roomy_z s = record {
  whole = subst (Bounded (2 ^ 61)) (sym (kept s.a0)) s.a0;
  root2 = subst (Bounded (2 ^ 61)) (sym (kept s.a1)) s.a1;
}

-- a difference of elements that small leaves room
pub small_difference : {x y n r : Element} → Small (2 ^ 60) x → Small (2 ^ 60) y → n ≡ negation y → r ≡ sum x n → Small (2 ^ 61) r
small_difference {x} h k e f = subst (Small (2 ^ 61)) (sym (f ∙ ap (sum x) e)) (small_sum h (small_negation k))

-- the squared sizes' difference, by its two parts
pub sizes : (u t : Element) {cu ct up down lowered r : Element} →
    Small (2 ^ 60) up → Small (2 ^ 60) down →
    cu ≡ conjugate u → up ≡ product u cu → ct ≡ conjugate t → down ≡ product t ct → lowered ≡ negation down → r ≡ sum up lowered →
    number (stored r.a0) (stored r.a1) ≡ number (size_whole u -ℤ size_whole t) (size_root2 u -ℤ size_root2 t)
unfolding real sum negation
sizes u t {up = up} {r = r} small_up small_down ecu eup ect edown elowered er =
    ap₂ number (kept small.a0) (kept small.a1) ∙ ap (λ (x : Element). number x.a0 x.a1) whole
  where
    whole : r ≡ sum (real (number (size_whole u) (size_root2 u))) (negation (real (number (size_whole t) (size_root2 t))))
    whole =
        er ∙ ap₂ sum (eup ∙ ap (product u) ecu ∙ size_real u) (elowered ∙ ap negation (edown ∙ ap (product t) ect ∙ size_real t))

    small : Small (2 ^ 61) r
    small = subst (Small (2 ^ 61)) (sym (er ∙ ap (sum up) elowered)) (small_sum small_up (small_negation small_down))
