-- What is said tells the answer: no two entries of the table are said alike, by number and place, and no two values that
-- a call returns. Assumes nothing.
use Prim.Native.Nat.{ℕ}
use Rattle.std.specs.Prelude.{Result, Ok, Err}
use mathlib.Core.Bool.{cond}
use native.Mathlib.Omega.{arith}
use mathlib.Core.Path.{◌≡◌, refl, sym, ap, ap₂, ◌∙◌}
use lib.Dec.{eqb}
use Rattle.answer.specs.declared.Refusal.{Refusal}
use Rattle.answer.specs.declared.Refusal.TheVariants.{BadLetter, TooLong, NoRoom, HighExponent, WideCoefficient, NotUnitary, NotForm, HighLeastExponent, BadFrame, BadCheckWord}
use Rattle.answer.specs.Refusal.{Said, accepted, refused, number, place, refusal, said}

-- the entry with this number and place
entry : ℕ → ℕ → Refusal
entry n p =
    cond (eqb n 1) (BadLetter p)
    (cond (eqb n 2) (TooLong p)
    (cond (eqb n 3) (NoRoom p)
    (cond (eqb n 4) HighExponent
    (cond (eqb n 5) (WideCoefficient p)
    (cond (eqb n 6) NotUnitary
    (cond (eqb n 7) (NotForm p)
    (cond (eqb n 8) HighLeastExponent
    (cond (eqb n 9) (BadFrame p) BadCheckWord))))))))

entry_of : (r : Refusal) → entry (number r) (place r) ≡ r
unfolding entry
entry_of (BadLetter p) = refl
entry_of (TooLong p) = refl
entry_of (NoRoom p) = refl
entry_of HighExponent = refl
entry_of (WideCoefficient p) = refl
entry_of NotUnitary = refl
entry_of (NotForm p) = refl
entry_of HighLeastExponent = refl
entry_of (BadFrame p) = refl
entry_of BadCheckWord = refl

pub refusal_told : {A : Type 0} (r s : Refusal) → refusal {A = A} r ≡ refusal s → r ≡ s
refusal_told r s same =
    let numbers : number r ≡ number s = cc in
    let places : place r ≡ place s = cc in
    sym (entry_of r) ∙ ap₂ entry numbers places ∙ entry_of s

-- an answer with values is no refusal
pub accepted_is_not_refused : {A : Type 0} {values : A} {n p : ℕ} → ◌≡◌ {A = Said A} (accepted values) (refused n p) → ⊥
accepted_is_not_refused same = let z : ◌≡◌ {A = ℕ} 0 1 = cc in omega arith

pub said_told : {A : Type 0} (a b : Result A Refusal) → said a ≡ said b → a ≡ b
said_told (Ok x) (Ok y) same = let values : x ≡ y = cc in ap Ok values
said_told (Ok x) (Err s) same = absurd (accepted_is_not_refused same)
said_told (Err r) (Ok y) same = absurd (accepted_is_not_refused (sym same))
said_told (Err r) (Err s) same = ap Err (refusal_told r s same)
