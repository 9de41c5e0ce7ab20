-- Lists, member by member: what holds of every member holds of one, of parts and of two lists joined; and before the first
-- member that fails a test all pass, so that it is one place of the list, and a list that passes has none. Assumes nothing.
use Prim.Native.Nat.{ℕ, zero, suc, ◌+◌, ◌<◌, ◌≤◌}
use native.Mathlib.Nat.{not-suc-le-zero, le_of_suc-le-suc}
use native.Mathlib.Omega.{arith}
use mathlib.Core.Bool.{Bool, false, true, not, cond, true≢false}
use mathlib.Core.List.{List, [], ◌∷◌, ◌++◌}
use mathlib.Core.Path.{◌≡◌, refl, sym, ◌∙◌, ap, subst}
use lib.ListN.{length, take, drop, get_or, replicate}
use Rattle.std.specs.Prelude.{Some, None, position, nat_lt}
use Rattle.std.specs.List.{prefix_len}
use Rattle.std.proofs.lemmas.Bool.{ltb-true, ltb-false}
use Rattle.lists.specs.Found.{Finds}
use Rattle.lists.specs.List.{Every, none, more, AllPass, FirstFailing, here, later}

-- ---- every member
pub every_first : {A : Type 0} {P : A → Type 0} {a : A} {s : List A} → Every P (a ∷ s) → P a
every_first (more p rest) = p

pub every_rest : {A : Type 0} {P : A → Type 0} {a : A} {s : List A} → Every P (a ∷ s) → Every P s
every_rest (more p rest) = rest

-- the member at a place
pub every_member : {A : Type 0} {P : A → Type 0} {s : List A} (d : A) → Every P s → (i : ℕ) → i < length s → P (get_or s i d)
every_member d none i h = absurd (not-suc-le-zero h)
every_member d (more p rest) zero h = p
every_member d (more p rest) (suc i) h = every_member d rest i (le_of_suc-le-suc h)

-- one member more
pub every_grows :
    {A : Type 0} {P : A → Type 0} (d : A) (i : ℕ) (s : List A) → i < length s → Every P (take i s) → P (get_or s i d) → Every P (take (suc i) s)
every_grows d i [] h all p = none
every_grows d zero (a ∷ s) h all p = more p none
every_grows d (suc i) (a ∷ s) h (more first all) p = more first (every_grows d i s (le_of_suc-le-suc h) all p)

-- parts of a list, and two joined
pub every_take : {A : Type 0} {P : A → Type 0} {s : List A} (n : ℕ) → Every P s → Every P (take n s)
every_take zero all = none
every_take (suc n) none = none
every_take (suc n) (more p rest) = more p (every_take n rest)

pub every_drop : {A : Type 0} {P : A → Type 0} {s : List A} (n : ℕ) → Every P s → Every P (drop n s)
every_drop zero all = all
every_drop (suc n) none = none
every_drop (suc n) (more p rest) = every_drop n rest

pub every_join : {A : Type 0} {P : A → Type 0} {s t : List A} → Every P s → Every P t → Every P (s ++ t)
every_join none all = all
every_join (more p rest) all = more p (every_join rest all)

-- one member many times
pub every_replicate : {A : Type 0} {P : A → Type 0} (n : ℕ) (a : A) → P a → Every P (replicate n a)
every_replicate zero a p = none
every_replicate (suc n) a p = more p (every_replicate n a p)

-- ---- the first member that fails
-- it stands after those that pass
pub fails_after :
    {A : Type 0} {test : A → Bool} (d : A) (i : ℕ) (s : List A) → i < length s → AllPass test (take i s) → test (get_or s i d) ≡ false →
    FirstFailing test s i
fails_after d i [] h all e = absurd (not-suc-le-zero h)
fails_after d zero (a ∷ s) h all e = here e
fails_after d (suc i) (a ∷ s) h (more first all) e = later first (fails_after d i s (le_of_suc-le-suc h) all e)

-- a list that passes has none
pub passes_or_fails : {A : Type 0} {test : A → Bool} {s : List A} {p : ℕ} → AllPass test s → FirstFailing test s p → ⊥
passes_or_fails none bad = elim bad [ ]
passes_or_fails (more e rest) (here f) = true≢false (sym e ∙ f)
passes_or_fails (more e rest) (later f bad) = passes_or_fails rest bad

-- it is at one place
pub fails_once : {A : Type 0} {test : A → Bool} {s : List A} {p q : ℕ} → FirstFailing test s p → FirstFailing test s q → p ≡ q
fails_once (here e) (here f) = refl
fails_once (here e) (later f b) = absurd (true≢false (sym f ∙ e))
fails_once (later e a) (here f) = absurd (true≢false (sym e ∙ f))
fails_once (later e a) (later f b) = ap suc (fails_once a b)

-- it is a place of the list
pub fails_within : {A : Type 0} {test : A → Bool} {s : List A} {p : ℕ} → FirstFailing test s p → p < length s
fails_within (here e) = omega arith
fails_within (later e rest) = omega (arith, fails_within rest)

-- ---- what a search by `position` finds: where it stops a member fails, and where it stops nowhere all pass
stops : {A : Type 0} (test : A → Bool) → List A → ℕ
stops test s = prefix_len (λ x. not (not (test x))) s

fails_next : {A : Type 0} (test : A → Bool) (a : A) (s : List A) (passes : Bool) → test a ≡ passes →
    (stops test s < length s → FirstFailing test s (stops test s)) → cond (not (not passes)) (1 + stops test s) 0 < suc (length s) →
    FirstFailing test (a ∷ s) (cond (not (not passes)) (1 + stops test s) 0)
fails_next test a s false e rest h = here e
fails_next test a s true e rest h =
    let next : suc (stops test s) ≡ 1 + stops test s = omega arith in
    subst (λ (n : ℕ). FirstFailing test (a ∷ s) n) next (later e (rest (omega arith)))

fails_at_stop : {A : Type 0} (test : A → Bool) (s : List A) → stops test s < length s → FirstFailing test s (stops test s)
unfolding stops
fails_at_stop test [] h = absurd (omega arith)
fails_at_stop test (a ∷ s) h = fails_next test a s (test a) refl (fails_at_stop test s) h

passes_next : {A : Type 0} (test : A → Bool) (a : A) (s : List A) (passes : Bool) → test a ≡ passes →
    (length s ≤ stops test s → AllPass test s) → suc (length s) ≤ cond (not (not passes)) (1 + stops test s) 0 → AllPass test (a ∷ s)
passes_next test a s false e rest h = absurd (omega arith)
passes_next test a s true e rest h = more e (rest (omega arith))

passes_without_stop : {A : Type 0} (test : A → Bool) (s : List A) → length s ≤ stops test s → AllPass test s
unfolding stops
passes_without_stop test [] h = none
passes_without_stop test (a ∷ s) h = passes_next test a s (test a) refl (passes_without_stop test s) h

finds_by : {A : Type 0} (test : A → Bool) (s : List A) (within : Bool) → nat_lt (stops test s) (length s) ≡ within →
    Finds test s (cond within (Some (stops test s)) None)
finds_by test s true e = fails_at_stop test s (ltb-true _ _ e)
finds_by test s false e = passes_without_stop test s (ltb-false _ _ e)

pub finds_position : {A : Type 0} (test : A → Bool) (s : List A) → Finds test s (position (λ x. not (test x)) s)
unfolding stops
finds_position test s = finds_by test s (nat_lt (stops test s) (length s)) refl
