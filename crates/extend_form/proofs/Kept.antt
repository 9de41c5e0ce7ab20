-- The codes as they are kept, the last at the end of a list, beside what clauses see of them, the last first: one pushed and one
-- taken off. Assumes nothing.
use Prim.Native.Nat.{ℕ, ◌+◌, ◌*◌, ◌<◌}
use native.Mathlib.Omega.{arith}
use lib.ListN.{length}
use mathlib.Core.List.{List, [], ◌∷◌, ◌++◌, reverse}
use mathlib.Core.Logic.{◌⊎◌, ⊎_elim}
use mathlib.Core.Path.{◌≡◌, sym, ap, ap₂, subst, subst₂, ◌∙◌}
use Rattle.std.specs.Prelude.{Option, Some}
use Rattle.std.specs.Option.{option_to_list}
use Rattle.std.proofs.lemmas.List.{reverse-append}
use Rattle.matrix.specs.Letter.{T}
use Rattle.form.specs.Tail.{tails, tail_h}
use Rattle.tail.specs.Product.{Product, PastT, BetweenT}
use Rattle.extend_form.specs.Spelling.{Spelling, Codes, WellFormed}
use Rattle.extend_form.specs.Extend.{Extended}
use Rattle.extend_form.proofs.Stack.{multiplied, pushed, joined}
use Rattle.extend_form.proofs.Codes.{syllable_above, code_alone, last_code}

last_first : (below : List ℕ) (code : ℕ) → reverse (below ++ code ∷ []) ≡ code ∷ reverse below
last_first below code = reverse-append below (code ∷ [])

-- what clauses see of codes and a tail that are kept
abbrev pub seen : List ℕ → ℕ → Spelling
seen codes n = record { codes = reverse codes; tail = n }

pub kept_well_formed : (s : Spelling) (codes : List ℕ) (n : ℕ) → seen codes n ≡ s → Codes (reverse codes) → n < tails → WellFormed s
kept_well_formed s codes n view good in_tails = subst WellFormed view (record { codes = good; in_tails = in_tails })

pub kept_multiplied : (s : Spelling) (codes : List ℕ) (n letter m : ℕ) → seen codes n ≡ s → Codes (reverse codes) → Product n letter m →
    Extended s (letter ∷ []) (seen codes m)
kept_multiplied s codes n letter m view good product =
    subst (λ (t : Spelling). Extended t (letter ∷ []) (seen codes m)) view (multiplied (seen codes n) letter m good product)

pub kept_pushed : (s : Spelling) (codes after : List ℕ) (n head m : ℕ) → seen codes n ≡ s → after ≡ codes ++ head ∷ [] → head ≡ tail_h n →
    Codes (tail_h s.tail ∷ s.codes) → PastT n m → Extended s (T ∷ []) (seen after m)
kept_pushed s codes after n head m view items top good past =
    let tails : n ≡ s.tail = ap (λ (t : Spelling). t.tail) view in
    let whole : reverse after ≡ tail_h s.tail ∷ s.codes =
    ap reverse items ∙ last_first codes head ∙ ap₂ ◌∷◌ (top ∙ ap tail_h tails) (ap (λ (t : Spelling). t.codes) view) in
    subst (λ (k : List ℕ). Extended s (T ∷ []) (record { codes = k; tail = m })) (sym whole)
    (pushed s m good (subst (λ (k : ℕ). PastT k m) tails past))

module _ (codes below : List ℕ) (popped : Option ℕ) (code : ℕ) (items : codes ≡ below ++ option_to_list popped) (some : popped ≡ Some code) (good : Codes (reverse codes)) where
  popped_last : reverse codes ≡ code ∷ reverse below
  popped_last = ap reverse (items ∙ ap (λ (o : Option ℕ). below ++ option_to_list o) some) ∙ last_first below code

  pub kept_last : (code < 3) × Codes (reverse below)
  kept_last = last_code (subst Codes popped_last good)

  pub kept_joined : (s : Spelling) (n b m : ℕ) → seen codes n ≡ s → BetweenT n b → m ≡ 64 * code + b → Extended s (T ∷ []) (seen below m)
  kept_joined s n b m view between sum =
      subst₂ (λ (t : Spelling) (k : ℕ). Extended t (T ∷ []) (seen below k))
      (ap (λ (k : List ℕ). record { codes = k; tail = n }) (sym popped_last) ∙ view) (sym sum)
      (joined code (reverse below) n b (subst Codes popped_last good) between)

-- a T may be pushed where the tail has a head, and where no code is kept
pushable : (codes : List ℕ) (head : ℕ) → Codes (reverse codes) → head < 3 → ((0 < head) ⊎ (length codes ≡ 0)) → Codes (head ∷ reverse codes)
pushable [] head good head< some = code_alone head head<
pushable (code ∷ codes) head good head< some =
    ⊎_elim (λ more. syllable_above head more head< good) (λ none. absurd (omega arith)) some

pub kept_pushable : (s : Spelling) (codes : List ℕ) (n head : ℕ) → seen codes n ≡ s → Codes (reverse codes) → n < tails → head ≡ tail_h n →
    ((0 < head) ⊎ (length codes ≡ 0)) → Codes (tail_h s.tail ∷ s.codes)
kept_pushable s codes n head view good in_tails top some =
    subst (λ (t : Spelling). Codes (tail_h t.tail ∷ t.codes)) view
    (subst (λ (h : ℕ). Codes (h ∷ reverse codes)) top (pushable codes head good (omega (arith, top)) some))
