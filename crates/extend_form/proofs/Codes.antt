-- Codes and what they spell: a syllable stands above any codes, a code is one of three, and what well-formed codes and a tail
-- spell is a form, with a T for each code. Assumes nothing.
use Prim.Native.Nat.{ℕ, zero, suc, ◌<◌}
use native.Mathlib.Omega.{arith}
use mathlib.Core.List.{List, [], ◌∷◌}
use mathlib.Core.Path.{◌≡◌}
use lib.Dec.{lit<}
use lib.ListN.{length}
use Rattle.form.specs.Form.{Form}
use Rattle.form.specs.Count.{t_count}
use Rattle.extend_form.specs.Spelling.{Spelling, Codes, no_codes, front, HT_above, SHT_above, spelled_text, WellFormed}
use Rattle.extend_form.proofs.Spelling.{codes_form, t_count_spelled}

-- a syllable stands above any codes, and a code is one of three
pub syllable_above : {below : List ℕ} (h : ℕ) → 0 < h → h < 3 → Codes below → Codes (h ∷ below)
syllable_above zero h> h< good = absurd (omega arith)
syllable_above (suc zero) h> h< good = HT_above good
syllable_above (suc (suc zero)) h> h< good = SHT_above good
syllable_above (suc (suc (suc h))) h> h< good = absurd (omega arith)

-- and any code stands alone
pub code_alone : (h : ℕ) → h < 3 → Codes (h ∷ [])
code_alone zero h< = front
code_alone (suc h) h< = syllable_above (suc h) (omega arith) h< no_codes

pub last_code : {code : ℕ} {below : List ℕ} → Codes (code ∷ below) → (code < 3) × Codes below
last_code front = (lit< tt, no_codes)
last_code (HT_above good) = (lit< tt, good)
last_code (SHT_above good) = (lit< tt, good)

-- what is well formed spells a form, with a T for each code
pub spelled_form : {s : Spelling} → WellFormed s → Form (spelled_text s)
unfolding spelled_text
spelled_form good = codes_form good.codes good.in_tails

pub t_count_kept : (s : Spelling) → t_count (spelled_text s) ≡ length s.codes
unfolding spelled_text
t_count_kept s = t_count_spelled s.codes s.tail
