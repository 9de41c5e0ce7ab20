-- What a search by `position` gives, where its closure computes that a test fails: the first member that fails the test, or
-- that all pass. Assumes nothing.
use Prim.Native.Nat.{ℕ}
use mathlib.Core.Bool.{Bool, true, false, not}
use mathlib.Core.List.{List}
use mathlib.Core.Path.{◌≡◌}
use lib.ListN.{length}
use denote.Param.Members.{Mut}
use Rattle.std.specs.Prelude.{Option, Some, None, position}
use Rattle.std.specs.Fn.{Called}
use Rattle.std.specs.Iterator.{YieldsThen}
use Rattle.std.specs.List.{FoldsTo}
use Rattle.std.specs.Option.{MatchOption}
use Rattle.std.proofs.lemmas.Iterator.{YieldsList}
use Rattle.std.proofs.lemmas.Iterator.Search.{position_from_yields_List}
use Rattle.lists.specs.Found.{Finds}
use Rattle.lists.proofs.List.{finds_position}

pub finds_from_position : {S A B F : Type 0} {steps : S → Option A → S → Type 0} {v : A → B} {g : Mut F (A × Unit {0}) Bool} {s : S}
    {all : List B} (test : B → Bool) (u : S) (f : F) (r : Option ℕ) →
    (xs : List A) × (o : Option A) × (j : F) × YieldsThen steps s xs o u × FoldsTo (λ p x q. Called g p (x, tt) false q) f xs j ×
    MatchOption o (r ≡ None) (λ x. (r ≡ Some (length xs)) × ((h : F) × Called g j (x, tt) true h)) →
    YieldsList steps v s all → ((x : A) (b : Bool) (q : F) → Called g f (x, tt) b q → (q ≡ f) × (b ≡ not (test (v x)))) →
    Finds test all r
finds_from_position {all = all} test u f r ran yields computes =
    let found : r ≡ position (λ b. not (test b)) all = position_from_yields_List (λ b. not (test b)) u f r ran yields computes in
    rw found (finds_position test all)
