-- Document 01, "The form", part by part: what the form reader's own functions answer of a text's beginning.
use Rattle.std.specs.Prelude.{ℕ, ◌<◌, ◌≤◌, false, List, [], ◌≡◌}
use Rattle.std.proofs.Math.ListN as L
use Rattle.form.specs.Tail.{tails, head_text}
use Rattle.form.specs.Form.{Syllable, Parts, syllable_text, form_text}
use Rattle.read_form.specs.declared.Reading.{Reading}
use Rattle.read_form.specs.Promise.{reading_of}

-- the text begins with n times the letter, n at most `most`, and with no more
pub record Run (text : List ℕ) (letter most n : ℕ) : Type 0 where
  pub at_most : n ≤ most
  pub within : n ≤ L.length text
  pub spelled : L.take n text ≡ L.replicate n letter
  pub stops : n < most → n < L.length text → L.get_or text n 0 ≡ letter → ⊥

-- the length of the first of two fronts that the text begins with, or 0 where it begins with neither
pub data Front (text first second : List ℕ) : ℕ → Type 0 where
  the_first : L.take (L.length first) text ≡ first → Front text first second (L.length first)
  the_second :
      (L.take (L.length first) text ≡ first → ⊥) → L.take (L.length second) text ≡ second →
      Front text first second (L.length second)
  neither :
      (L.take (L.length first) text ≡ first → ⊥) → (L.take (L.length second) text ≡ second → ⊥) → Front text first second 0

-- the text begins with a tail's head, "(nothing, H or SH)", of h bytes, and with no longer one
pub record Head (text : List ℕ) (h : ℕ) : Type 0 where
  pub small : h < 3
  pub within : h ≤ L.length text
  pub spelled : L.take h text ≡ head_text h
  pub longest : (k : ℕ) → k < 3 → L.take k text ≡ head_text k → k ≤ h

-- the text begins with a whole syllable of k bytes, or with none, where k is 0
pub record LeadingSyllable (text : List ℕ) (k : ℕ) : Type 0 where
  pub within : k ≤ L.length text
  pub whole : 0 < k → (s : Syllable) × (L.length (syllable_text s) ≡ k) × (L.take k text ≡ syllable_text s)
  pub none : k ≡ 0 → (s : Syllable) → L.take (L.length (syllable_text s)) text ≡ syllable_text s → ⊥

-- the parts that are read: any; "the rest of the text", which has no front; a tail alone
abbrev pub Any : Parts → Type 0
Any p = Unit {0}

abbrev pub NoFront : Parts → Type 0
NoFront p = p.front ≡ false

abbrev pub OnlyTail : Parts → Type 0
OnlyTail p = (p.front ≡ false) × (p.syllables ≡ [])

-- the reading of the longest prefix of a text that is a form with such parts
pub record Longest (Allowed : Parts → Type 0) (text : List ℕ) (reading : Reading) : Type 0 where
  pub parts : Parts
  pub allowed : Allowed parts
  pub in_tails : parts.tail < tails
  pub within : reading.figures.length ≤ L.length text
  pub spelled : L.take reading.figures.length text ≡ form_text parts
  pub read : reading ≡ reading_of (form_text parts) parts.tail
  pub longest :
      (q : Parts) (n : ℕ) → Allowed q → q.tail < tails → n ≤ L.length text → L.take n text ≡ form_text q →
      n ≤ reading.figures.length
