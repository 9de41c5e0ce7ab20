-- Lists, member by member: what holds of every one, and which is the first that fails a test.
use Rattle.std.specs.Prelude.{ℕ, suc, Bool, true, false, List, [], ◌∷◌, ◌≡◌}

-- it holds of every member
pub data Every {A : Type 0} (P : A → Type 0) : List A → Type 0 where
  none : Every P []
  more : {a : A} {s : List A} → P a → Every P s → Every P (a ∷ s)

-- every member passes the test
abbrev pub AllPass : {A : Type 0} → (A → Bool) → List A → Type 0
AllPass test s = Every (λ a. test a ≡ true) s

-- the place of the first member that fails the test, counted from 0
pub data FirstFailing {A : Type 0} (test : A → Bool) : List A → ℕ → Type 0 where
  here : {a : A} {s : List A} → test a ≡ false → FirstFailing test (a ∷ s) 0
  later : {a : A} {s : List A} {p : ℕ} → test a ≡ true → FirstFailing test s p → FirstFailing test (a ∷ s) (suc p)
