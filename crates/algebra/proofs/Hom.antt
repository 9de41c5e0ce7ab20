-- Maps between rings that keep sums, products and integers: the value of an expression commutes with such a map.
-- Assumes nothing.
use mathlib.Core.Path.{◌≡◌, sym, ◌∙◌, ap, ap₂}
use mathlib.Core.List.{List, map}
use Prim.Native.Nat.{zero, suc}
use lib.IntN.{ℤ, pos, negsuc}
use lib.ListN.{get_or, get_or-map}
use Rattle.algebra.proofs.Ring.{Ring, negate_unique}
use Rattle.algebra.proofs.Solver.{Expr, var, con, ◌⊕◌, ◌⊗◌, ⊖◌, constant, value}

-- A map from R to S that keeps sums, products and integers
pub record Hom (R S : Ring) : Type 0 where
  pub image : R.Carrier → S.Carrier
  pub image_plus : (a b : R.Carrier) → image (R.plus a b) ≡ S.plus (image a) (image b)
  pub image_times : (a b : R.Carrier) → image (R.times a b) ≡ S.times (image a) (image b)
  pub image_cast : (m : ℤ) → image (R.cast m) ≡ S.cast m

module _ (R S : Ring) (h : Hom R S) where
  open h use {image, image_plus, image_times, image_cast}

  -- Nothing goes to nothing
  pub image_none : image R.none ≡ S.none
  image_none = ap image (sym R.cast_none) ∙ image_cast (pos 0) ∙ S.cast_none

  -- One goes to one
  pub image_one : image R.one ≡ S.one
  image_one = ap image (sym R.cast_one) ∙ image_cast (pos 1) ∙ S.cast_one

  -- A sign is kept
  pub image_negate : (a : R.Carrier) → image (R.negate a) ≡ S.negate (image a)
  image_negate a = negate_unique S (image a) (image (R.negate a)) (sym (image_plus a (R.negate a)) ∙ ap image (R.plus_negate a) ∙ image_none)

  -- An integer goes to itself
  image_constant : (z : ℤ) → image (constant R z) ≡ constant S z
  image_constant (pos zero) = image_none
  image_constant (pos (suc zero)) = image_one
  image_constant (pos (suc (suc n))) = image_cast (pos (suc (suc n)))
  image_constant (negsuc n) = image_cast (negsuc n)

  -- The image of an expression's value is its value at the images
  pub value_hom : (values : List R.Carrier) (e : Expr) → image (value R values e) ≡ value S (map image values) e
  value_hom values (var n) = sym (get_or-map image values n R.none) ∙ ap (get_or (map image values) n) image_none
  value_hom values (con z) = image_constant z
  value_hom values (a ⊕ b) = image_plus (value R values a) (value R values b) ∙ ap₂ S.plus (value_hom values a) (value_hom values b)
  value_hom values (a ⊗ b) = image_times (value R values a) (value R values b) ∙ ap₂ S.times (value_hom values a) (value_hom values b)
  value_hom values (⊖ a) = image_negate (value R values a) ∙ ap S.negate (value_hom values a)
