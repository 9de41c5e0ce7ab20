-- What a search for the first member that fails a test finds.
use Rattle.std.specs.Prelude.{ℕ, Bool, List, Option, Some, None}
use Rattle.lists.specs.List.{AllPass, FirstFailing}

-- the place of the first member that fails, or none where every member passes
abbrev pub Finds : {A : Type 0} → (A → Bool) → List A → Option ℕ → Type 0
Finds test s (Some place) = FirstFailing test s place
Finds test s None = AllPass test s
