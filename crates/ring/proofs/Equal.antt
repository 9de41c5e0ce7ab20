-- The derived test of two elements tells that they are equal, coefficient by coefficient. Assumes nothing.
use mathlib.Core.Path.{◌≡◌, ap}
use mathlib.Core.Bool.{Bool, ◌&&◌}
use Rattle.std.specs.Bool.{Decides}
use Rattle.std.specs.Ordering.{int_eq}
use Rattle.std.proofs.lemmas.Bool.Decides.{Decides-at, Decides-like, Decides-and, Decides-int_eq}
use Rattle.ring.specs.declared.Element.{Element}
use Rattle.ring.proofs.Bounds.{equal_coefficients}

pub equal_told : {t : Bool} (x y : Element) →
    t ≡ int_eq x.a0 y.a0 && (int_eq x.a1 y.a1 && (int_eq x.a2 y.a2 && int_eq x.a3 y.a3)) → Decides t (x ≡ y)
equal_told x y e =
    let parts =
    Decides-and (int_eq x.a0 y.a0) _ (Decides-int_eq x.a0 y.a0)
    (Decides-and (int_eq x.a1 y.a1) _ (Decides-int_eq x.a1 y.a1)
    (Decides-and (int_eq x.a2 y.a2) (int_eq x.a3 y.a3) (Decides-int_eq x.a2 y.a2) (Decides-int_eq x.a3 y.a3))) in
    Decides-at _ _ e
    (Decides-like _
    (λ p. equal_coefficients p.0 p.1.0 p.1.1.0 p.1.1.1)
    (λ p. (ap (λ (z : Element). z.a0) p, (ap (λ (z : Element). z.a1) p, (ap (λ (z : Element). z.a2) p, ap (λ (z : Element). z.a3) p))))
    parts)
