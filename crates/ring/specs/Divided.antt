-- Document 01, "The forms we use": "exact halving when dividing twice by √2". Which elements can be divided so.
use Rattle.std.specs.Prelude.{◌≡◌}
use Rattle.ring.specs.declared.Element.{Element}
use Rattle.ring.specs.Element.{root2, sum, product}

-- an element that is √2 times another
pub record Root2Divides (x : Element) : Type 0 where
  pub quotient : Element
  pub multiplied : product root2 quotient ≡ x

-- an element that is twice another
pub record Double (x : Element) : Type 0 where
  pub half : Element
  pub doubled : sum half half ≡ x
