-- Matrices whose entries are formal elements, with the operations of the definitions: an identity between matrix records,
-- over powers of √2, is sixteen identities between whole numbers, which the solver computes. Assumes nothing.
use mathlib.Core.Path.{◌≡◌, refl, ap, sym, ◌∙◌}
use mathlib.Core.Bool.{Bool, ◌&&◌}
use mathlib.Core.List.{List, [], ◌∷◌}
use Prim.Native.Nat.{ℕ, zero, suc, ◌+◌}
use lib.Dec.{T as Holds}
use lib.IntN.{ℤ, pos}
use Rattle.algebra.proofs.Solver.{same as solved, var, con, ◌⊗◌, combine, given, done}
use Rattle.ring.specs.declared.Element.{Element}
use Rattle.ring.specs.Element.{one, root2, sum, product, multiple, turned, root2_power}
use Rattle.ring.proofs.Formal.{Formal, formal, ◌+ᶠ◌, ◌*ᶠ◌, conjugateᶠ, wholeᶠ, root2ᶠ, meant, coefficientwise}
use Rattle.ring.proofs.Ring.{elements}
use Rattle.ring.proofs.Root2.{root2_power_plus, root2_power_cancel}
use Rattle.matrix.specs.declared.Matrix.{Matrix}
use Rattle.matrix.specs.Matrix.{matrix, EqualOver, Same}
use Rattle.matrix.proofs.Test.{both}

pub record FormalMatrix : Type 0 where
  pub tl : Formal
  pub tr : Formal
  pub bl : Formal
  pub br : Formal

abbrev pub formal_matrix : Formal → Formal → Formal → Formal → FormalMatrix
formal_matrix a b c d = record { tl = a; tr = b; bl = c; br = d }

abbrev pub timesᶠ : FormalMatrix → FormalMatrix → FormalMatrix
timesᶠ m n =
    formal_matrix
    (m.tl *ᶠ n.tl +ᶠ m.tr *ᶠ n.bl) (m.tl *ᶠ n.tr +ᶠ m.tr *ᶠ n.br)
    (m.bl *ᶠ n.tl +ᶠ m.br *ᶠ n.bl) (m.bl *ᶠ n.tr +ᶠ m.br *ᶠ n.br)

abbrev pub adjointᶠ : FormalMatrix → FormalMatrix
adjointᶠ m = formal_matrix (conjugateᶠ m.tl) (conjugateᶠ m.bl) (conjugateᶠ m.tr) (conjugateᶠ m.br)

abbrev pub oneᶠ : Formal
oneᶠ = wholeᶠ (con (pos 1))

abbrev pub nothingᶠ : Formal
nothingᶠ = wholeᶠ (con (pos 0))

abbrev pub omega2ᶠ : Formal
omega2ᶠ = formal (con (pos 0)) (con (pos 0)) (con (pos 1)) (con (pos 0))

abbrev pub omegaᶠ : Formal
omegaᶠ = formal (con (pos 0)) (con (pos 1)) (con (pos 0)) (con (pos 0))

-- every coefficient of a formal matrix, multiplied
abbrev pub scaledᶠ : Formal → FormalMatrix → FormalMatrix
scaledᶠ s m = formal_matrix (s *ᶠ m.tl) (s *ᶠ m.tr) (s *ᶠ m.bl) (s *ᶠ m.br)

-- the solver's test at every coefficient
abbrev pub alike : Formal → Formal → Bool
alike f g = solved f.c0 g.c0 && (solved f.c1 g.c1 && (solved f.c2 g.c2 && solved f.c3 g.c3))

abbrev pub alike_matrix : FormalMatrix → FormalMatrix → Bool
alike_matrix f g = alike f.tl g.tl && (alike f.tr g.tr && (alike f.bl g.bl && alike f.br g.br))

-- formal elements that pass the test stand for equal elements
alike_equal : (values : List ℤ) (f g : Formal) → Holds (alike f g) → meant values f ≡ meant values g
alike_equal values f g h =
    let first = both (solved f.c0 g.c0) _ h in
    let second = both (solved f.c1 g.c1) _ first.1 in
    let third = both (solved f.c2 g.c2) _ second.1 in
    coefficientwise values f g (first.0, second.0, third.0, third.1)

-- the record that a formal matrix stands for
abbrev pub meant_matrix : ℕ → List ℤ → FormalMatrix → Matrix
meant_matrix k values f = matrix k (meant values f.tl) (meant values f.tr) (meant values f.bl) (meant values f.br)

abbrev pub powerᶠ : ℕ → Formal
powerᶠ zero = oneᶠ
powerᶠ (suc k) = root2ᶠ *ᶠ powerᶠ k

meant_times : (values : List ℤ) (f g : Formal) → product (meant values f) (meant values g) ≡ meant values (f *ᶠ g)
unfolding product sum multiple turned
meant_times values f g = refl

meant_power : (values : List ℤ) (k : ℕ) → root2_power k ≡ meant values (powerᶠ k)
unfolding root2_power one root2
meant_power values zero = refl
meant_power values (suc k) = ap (product root2) (meant_power values k) ∙ meant_times values root2ᶠ (powerᶠ k)

-- elements that agree once multiplied by powers of √2 are equal over exponents that differ by as much
over_scaled : (i j k l : ℕ) → l + j ≡ k + i → (x y : Element) → product (root2_power i) x ≡ product (root2_power j) y → EqualOver k l x y
unfolding EqualOver
over_scaled i j k l exponents x y e =
    root2_power_cancel i (product (root2_power l) x) (product (root2_power k) y)
    (combine elements (root2_power i ∷ root2_power j ∷ root2_power k ∷ root2_power l ∷ x ∷ y ∷ [])
    (given (var 3) (var 0 ⊗ var 4) (var 1 ⊗ var 5) e
    (given (var 5) (var 3 ⊗ var 1) (var 2 ⊗ var 0) (sym (root2_power_plus l j) ∙ ap root2_power exponents ∙ root2_power_plus k i) done))
    (var 0 ⊗ (var 3 ⊗ var 4)) (var 0 ⊗ (var 2 ⊗ var 5)) tt)

-- the same, by the test
pub over_alike : (i j k l : ℕ) → l + j ≡ k + i → (values : List ℤ) (f g : Formal) →
    Holds (alike (powerᶠ i *ᶠ f) (powerᶠ j *ᶠ g)) → EqualOver k l (meant values f) (meant values g)
over_alike i j k l exponents values f g h =
    over_scaled i j k l exponents (meant values f) (meant values g)
    (ap (λ (r : Element). product r (meant values f)) (meant_power values i) ∙ meant_times values (powerᶠ i) f
    ∙ alike_equal values (powerᶠ i *ᶠ f) (powerᶠ j *ᶠ g) h
    ∙ sym (ap (λ (r : Element). product r (meant values g)) (meant_power values j) ∙ meant_times values (powerᶠ j) g))

pub same_alike : (i j k l : ℕ) → l + j ≡ k + i → (values : List ℤ) (f g : FormalMatrix) →
    Holds (alike_matrix (scaledᶠ (powerᶠ i) f) (scaledᶠ (powerᶠ j) g)) → Same (meant_matrix k values f) (meant_matrix l values g)
same_alike i j k l exponents values f g h =
    let first = both (alike (powerᶠ i *ᶠ f.tl) (powerᶠ j *ᶠ g.tl)) _ h in
    let second = both (alike (powerᶠ i *ᶠ f.tr) (powerᶠ j *ᶠ g.tr)) _ first.1 in
    let third = both (alike (powerᶠ i *ᶠ f.bl) (powerᶠ j *ᶠ g.bl)) _ second.1 in
    let over = over_alike i j k l exponents values in
    record {
      top_left = over f.tl g.tl first.0;
      top_right = over f.tr g.tr second.0;
      bottom_left = over f.bl g.bl third.0;
      bottom_right = over f.br g.br third.1;
    }
