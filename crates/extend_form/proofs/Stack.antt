-- What the step does to the codes and the tail extends the form that they spell: the tail is multiplied, T is pushed with the
-- tail's head, or T is joined with the last code. Assumes nothing.
use Prim.Native.Nat.{ℕ, ◌+◌, ◌*◌, ◌≤◌, ◌<◌}
use native.Mathlib.Numerals.{add-one}
use native.Mathlib.Omega.{arith}
use mathlib.Core.List.{List, [], ◌∷◌}
use mathlib.Core.Path.{◌≡◌}
use lib.ListN.{length, take, get_or, length-take}
use lib.Seq.{take-suc}
use Rattle.matrix.specs.Letter.{T}
use Rattle.form.specs.Tail.{tail_h, head_text, tail_text}
use Rattle.form.proofs.Count.{t_count_append, t_count_within}
use Rattle.tail.specs.Product.{Product, PastT, BetweenT}
use Rattle.extend_form.specs.Spelling.{Spelling, Codes, codes_text, spelled_text}
use Rattle.extend_form.specs.Extend.{Fresh, Extended}
use Rattle.extend_form.proofs.Step.{tail_multiplied, code_pushed, code_popped, extends_more}
use Rattle.extend_form.proofs.Codes.{t_count_kept, last_code}

-- the codes grow by no more than the letters
pub codes_within : {s s' : Spelling} {w : List ℕ} → Extended s w s' → length s'.codes ≤ length s.codes + length w
codes_within {s} {s'} {w} e =
    omega (
      arith,
      e.extends.no_more_T,
      t_count_kept s,
      t_count_kept s',
      t_count_append (spelled_text s) w,
      t_count_within w,
    )

-- so codes that have room for a whole text have room before its last letter
pub room_left : {s s' : Spelling} (text : List ℕ) (i room : ℕ) → i < length text → Extended s (take i text) s' →
    length s.codes + length text ≤ room → length s'.codes < room
room_left text i room i< e fits = omega (arith, codes_within e, length-take i text)

-- one letter more of a text
pub taken_more : {s s' s'' : Spelling} (text : List ℕ) (i : ℕ) → i < length text →
    Extended s (take i text) s' → Extended s' (get_or text i 0 ∷ []) s'' → Extended s (take (i + 1) text) s''
taken_more text i i< first second =
    record {
      well_formed = second.well_formed;
      extends = rw (add-one, take-suc text i 0 i<) (extends_more first.extends second.extends);
    }

-- the empty form spells no letters
pub fresh_text : {s : Spelling} → Fresh s → spelled_text s ≡ []
unfolding spelled_text codes_text tail_text head_text
fresh_text fresh = rw (fresh.no_codes, fresh.no_tail)

-- the tail multiplied by a letter other than T
pub multiplied : (s : Spelling) (letter m : ℕ) → Codes s.codes → Product s.tail letter m →
    Extended s (letter ∷ []) (record { codes = s.codes; tail = m })
unfolding spelled_text
multiplied s letter m good product =
    record {
      well_formed = record { codes = good; in_tails = product.in_tails };
      extends = tail_multiplied s.codes s.tail letter m product;
    }

-- T pushed with the tail's head
pub pushed : (s : Spelling) (m : ℕ) → Codes (tail_h s.tail ∷ s.codes) → PastT s.tail m →
    Extended s (T ∷ []) (record { codes = tail_h s.tail ∷ s.codes; tail = m })
unfolding spelled_text
pushed s m good past =
    let headless = past.headless in
    record {
      well_formed = record { codes = good; in_tails = omega arith };
      extends = code_pushed s.codes s.tail m past;
    }

-- T joined with the last code's T
pub joined : (code : ℕ) (below : List ℕ) (n m : ℕ) → Codes (code ∷ below) → BetweenT n m →
    Extended (record { codes = code ∷ below; tail = n }) (T ∷ []) (record { codes = below; tail = 64 * code + m })
unfolding spelled_text
joined code below n m good between =
    let last = last_code good in
    let headless = between.headless in
    let code< = last.0 in
    record {
      well_formed = record { codes = last.1; in_tails = omega arith };
      extends = code_popped below code n m between;
    }
