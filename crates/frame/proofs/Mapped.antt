-- What an array's `map` gives, where its closure computes a function: the function of each element. Assumes nothing.
use Rattle.std.proofs.Common.{◌≡◌, ℕ, ◌<◌, List, length, map, get_or, sym, ◌∙◌, arith}
use denote.Param.Members.{Mut}
use Rattle.std.specs.Array.{IsMapOf}
use Rattle.std.specs.Fn.{Called}
use Rattle.std.proofs.lemmas.List.{same_lists, get_or-map, length-map}

pub mapped :
    {F A B : Type 0} (g : Mut F (A × Unit {0}) B) (h : A → B) (a : A) {f : F} (xs : List A) {ys : List B} {n : ℕ} → IsMapOf g f xs ys n →
    length xs ≡ n → ((k : ℕ) (y : B) (p q : F) → k < n → Called g p (get_or xs k a, tt) y q → y ≡ h (get_or xs k a)) → ys ≡ map h xs
mapped {B = B} g h a xs {ys = ys} {n = n} made long computes = same_lists ys (map h xs) (made.long ∙ sym (length-map xs h ∙ long)) each
  where
    each : (k : ℕ) (d : B) → k < length ys → get_or ys k d ≡ get_or (map h xs) k d
    each k d l =
        let inside : k < n = omega (arith, made.long) in
        let (p, q, called) = made.at k a d inside in
        computes k (get_or ys k d) p q inside called ∙ sym (get_or-map h xs k a d (omega (arith, made.long)))
