-- Two records are the same where their exponents and their four elements are. Assumes nothing.
use mathlib.Core.Path.{◌≡◌}
use Prim.Native.Nat.{ℕ}
use Rattle.ring.specs.declared.Element.{Element}
use Rattle.matrix.specs.Matrix.{matrix}

pub equal_entries :
    {k l : ℕ} {a b c d e f g h : Element} → k ≡ l → a ≡ e → b ≡ f → c ≡ g → d ≡ h → matrix k a b c d ≡ matrix l e f g h
equal_entries k_l a_e b_f c_g d_h = λ i. matrix (k_l i) (a_e i) (b_f i) (c_g i) (d_h i)
