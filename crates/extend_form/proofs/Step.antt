-- One letter more on codes and a tail: a letter other than T changes the tail; T is pushed with the tail's head, or meets
-- the T of the last code. In each case the text is extended by the letter. Assumes nothing.
use Prim.Native.Nat.{ℕ, ◌+◌, ◌*◌, ◌≤◌}
use native.Mathlib.Omega.{arith}
use mathlib.Core.List.{List, [], ◌∷◌, ◌++◌, append_assoc, append-nil}
use mathlib.Core.Path.{◌≡◌, refl, sym, ap, subst₂}
use lib.ListN.{length}
use Rattle.matrix.specs.Matrix.{Same}
use Rattle.matrix.specs.Letter.{T, matrix_of}
use Rattle.matrix.proofs.Same.{same_refl, same_trans}
use Rattle.form.specs.Tail.{tail_h, head_text, tail_text}
use Rattle.form.specs.Count.{t_count}
use Rattle.form.proofs.Count.{t_count_append}
use Rattle.tail.specs.Product.{Product, PastT, BetweenT}
use Rattle.extend_form.specs.Spelling.{codes_text}
use Rattle.extend_form.specs.Extend.{Extends}
use Rattle.extend_form.proofs.Append.{same_after, same_before}
use Rattle.extend_form.proofs.Spelling.{t_count_spelled, headed_tail}

-- texts of equal meaning, each told by another spelling
respelled : {s s' t t' : List ℕ} → s ≡ s' → t ≡ t' → Same (matrix_of s) (matrix_of t) → Same (matrix_of s') (matrix_of t')
respelled e d h = subst₂ (λ (s t : List ℕ). Same (matrix_of s) (matrix_of t)) e d h

-- T's after a letter other than T, and after T
kept_T : (codes codes' : List ℕ) (n m letter : ℕ) → length codes' ≤ length codes →
    t_count (codes_text codes' ++ tail_text m) ≤ t_count ((codes_text codes ++ tail_text n) ++ letter ∷ [])
kept_T codes codes' n m letter h =
    omega (
      arith,
      t_count_append (codes_text codes ++ tail_text n) (letter ∷ []),
      t_count_spelled codes n,
      t_count_spelled codes' m,
    )

one_T : t_count (T ∷ []) ≡ 1
unfolding t_count
one_T = refl

one_more_T : (codes : List ℕ) (n m code : ℕ) →
    t_count (codes_text (code ∷ codes) ++ tail_text m) ≤ t_count ((codes_text codes ++ tail_text n) ++ T ∷ [])
one_more_T codes n m code =
    omega (
      arith,
      t_count_append (codes_text codes ++ tail_text n) (T ∷ []),
      one_T,
      t_count_spelled codes n,
      t_count_spelled (code ∷ codes) m,
    )

-- a letter other than T: the tail is multiplied
pub tail_multiplied : (codes : List ℕ) (n letter m : ℕ) → Product n letter m →
    Extends (codes_text codes ++ tail_text n) (letter ∷ []) (codes_text codes ++ tail_text m)
tail_multiplied codes n letter m p =
    record {
      same =
          respelled refl (sym (append_assoc (codes_text codes) (tail_text n) (letter ∷ [])))
          (same_after (codes_text codes) (tail_text m) (tail_text n ++ letter ∷ []) p.same);
      no_more_T = kept_T codes codes n m letter (omega arith);
    }

-- T: a code is pushed, the tail's head and T
pub code_pushed : (codes : List ℕ) (n m : ℕ) → PastT n m →
    Extends (codes_text codes ++ tail_text n) (T ∷ []) (codes_text (tail_h n ∷ codes) ++ tail_text m)
unfolding codes_text
code_pushed codes n m p =
    record {
      same =
          respelled
          (simp append_assoc)
          (sym (append_assoc (codes_text codes) (tail_text n) (T ∷ [])))
          (same_after (codes_text codes) (head_text (tail_h n) ++ T ∷ tail_text m) (tail_text n ++ T ∷ []) p.same);
      no_more_T = one_more_T codes n m (tail_h n);
    }

-- T: the last code's T and T are S, so the code's head begins the tail
pub code_popped : (below : List ℕ) (code n m : ℕ) → BetweenT n m →
    Extends (codes_text (code ∷ below) ++ tail_text n) (T ∷ []) (codes_text below ++ tail_text (64 * code + m))
unfolding codes_text
code_popped below code n m p =
    record {
      same =
          respelled
          (ap (λ (t : List ℕ). codes_text below ++ t) (sym (headed_tail code m p.headless)))
          (simp append_assoc)
          (same_after (codes_text below) (head_text code ++ tail_text m) (head_text code ++ (T ∷ (tail_text n ++ T ∷ [])))
          (same_after (head_text code) (tail_text m) (T ∷ (tail_text n ++ T ∷ [])) p.same));
      no_more_T = kept_T (code ∷ below) below n (64 * code + m) T (omega arith);
    }

-- no letters, and letters in two parts
pub extends_none : (f : List ℕ) → Extends f [] f
extends_none f =
    record {
      same = respelled refl (sym (append-nil f)) (same_refl (matrix_of f));
      no_more_T = omega (arith, ap t_count (append-nil f));
    }

pub extends_more : {f v g w h : List ℕ} → Extends f v g → Extends g w h → Extends f (v ++ w) h
extends_more {f} {v} {g} {w} {h} first second =
    record {
      same =
          same_trans second.same
          (respelled refl (append_assoc f v w) (same_before g (f ++ v) w first.same));
      no_more_T =
          omega (
            arith,
            first.no_more_T,
            second.no_more_T,
            t_count_append g w,
            t_count_append (f ++ v) w,
            ap t_count (append_assoc f v w),
          );
    }
