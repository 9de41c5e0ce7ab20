-- What a `Result` was before its error was mapped. Assumes nothing.
use mathlib.Core.Path.{◌≡◌, refl, ap, subst}
use Rattle.std.specs.Prelude.{Result, Ok, Err, MatchResult, IsErrAnd}
use Rattle.std.proofs.lemmas.Result.{err_from_is_err_and}

module _ {A D E : Type 0} (Maps : D → E → Type 0) where
  pub mapped_ok : (r : Result A D) (m : Result A E) (x : A) → m ≡ Ok x →
      MatchResult r (λ y. m ≡ Ok y) (λ d. IsErrAnd m (Maps d)) → r ≡ Ok x
  mapped_ok (Ok y) m x e told = let same : y ≡ x = cc in ap Ok same
  mapped_ok (Err d) m x e told = let err = err_from_is_err_and m told in let is = err.1 in absurd cc

  pub mapped_err : (r : Result A D) (m : Result A E) (e : E) → m ≡ Err e →
      MatchResult r (λ y. m ≡ Ok y) (λ d. IsErrAnd m (Maps d)) → (d : D) × (r ≡ Err d) × Maps d e
  mapped_err (Ok y) m x e told = absurd cc
  mapped_err (Err d) m x e told =
      let (f, is, maps) = err_from_is_err_and m told in
      let same : f ≡ x = cc in
      (d, refl, subst (Maps d) same maps)
