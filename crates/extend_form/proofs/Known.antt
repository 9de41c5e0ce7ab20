-- A text is spelled by one list of codes and one rest without a T: it is cut at its last T, and the code that ends there is known
-- by its head; what comes before that T is again codes and a rest without a T, the head. Assumes nothing.
use Prim.Native.Nat.{ℕ, zero, suc, ◌<◌}
use native.Mathlib.Omega.{arith}
use mathlib.Core.List.{List, [], ◌∷◌, ◌++◌, append_assoc, head-eq_of_cons-eq, tail-eq_of_cons-eq}
use mathlib.Core.Path.{◌≡◌, refl, sym, ap, ap₂, ◌∙◌}
use lib.ListN.{length}
use Rattle.matrix.specs.Letter.{T}
use Rattle.form.specs.Tail.{head_text}
use Rattle.form.specs.Count.{t_count}
use Rattle.form.proofs.Count.{t_count_append, t_count_head}
use Rattle.extend_form.specs.Spelling.{Codes, codes_text}
use Rattle.extend_form.proofs.Codes.{last_code}

-- a T that stands in a text
some_T : (s t : List ℕ) → 0 < t_count (s ++ T ∷ t)
unfolding t_count
some_T s t = omega (arith, t_count_append s (T ∷ t))

-- a text is cut at its last T in one way
cut_at_last_T : (s s' t t' : List ℕ) → t_count t ≡ 0 → t_count t' ≡ 0 → s ++ T ∷ t ≡ s' ++ T ∷ t' → (s ≡ s') × (t ≡ t')
cut_at_last_T [] [] t t' none none' e = (refl, tail-eq_of_cons-eq e)
cut_at_last_T [] (b' ∷ s') t t' none none' e =
    absurd (omega (arith, some_T s' t', ap t_count (tail-eq_of_cons-eq e)))
cut_at_last_T (b ∷ s) [] t t' none none' e =
    absurd (omega (arith, some_T s t, ap t_count (tail-eq_of_cons-eq e)))
cut_at_last_T (b ∷ s) (b' ∷ s') t t' none none' e =
    let rest = cut_at_last_T s s' t t' none none' (tail-eq_of_cons-eq e) in
    (ap₂ ◌∷◌ (head-eq_of_cons-eq e) rest.0, rest.1)

-- a code is known by its head, whose length it is
head_length : (code : ℕ) → code < 3 → length (head_text code) ≡ code
unfolding head_text
head_length zero code< = refl
head_length (suc zero) code< = refl
head_length (suc (suc zero)) code< = refl
head_length (suc (suc (suc code))) code< = absurd (omega arith)

-- codes end in a T, before which their last head stands
last_apart : (below : List ℕ) (code : ℕ) (t : List ℕ) → codes_text (code ∷ below) ++ t ≡ (codes_text below ++ head_text code) ++ T ∷ t
unfolding codes_text
last_apart below code t = simp append_assoc

no_codes_no_T : (below : List ℕ) (code : ℕ) (t t' : List ℕ) → t_count t ≡ 0 → t ≡ codes_text (code ∷ below) ++ t' → ⊥
no_codes_no_T below code t t' none e =
    omega (arith, ap t_count (e ∙ last_apart below code t'), some_T (codes_text below ++ head_text code) t')

-- codes, and what follows them without a T, are known by the text
pub codes_known : (codes codes' t t' : List ℕ) → Codes codes → Codes codes' → t_count t ≡ 0 → t_count t' ≡ 0 →
    codes_text codes ++ t ≡ codes_text codes' ++ t' → (codes ≡ codes') × (t ≡ t')
codes_known [] [] t t' good good' none none' e = (refl, unfold codes_text in e)
codes_known [] (code' ∷ below') t t' good good' none none' e =
    absurd (no_codes_no_T below' code' t t' none (unfold codes_text in e))
codes_known (code ∷ below) [] t t' good good' none none' e =
    absurd (no_codes_no_T below code t' t none' (unfold codes_text in sym e))
codes_known (code ∷ below) (code' ∷ below') t t' good good' none none' e =
    let (code<, under) = last_code good in
    let (code'<, under') = last_code good' in
    let (before, after) = cut_at_last_T (codes_text below ++ head_text code) (codes_text below' ++ head_text code') t t' none none'
    (sym (last_apart below code t) ∙ e ∙ last_apart below' code' t') in
    let (rest, head) = codes_known below below' (head_text code) (head_text code') under under' (t_count_head code) (t_count_head code') before in
    (ap₂ ◌∷◌ (sym (head_length code code<) ∙ ap length head ∙ head_length code' code'<) rest, after)
