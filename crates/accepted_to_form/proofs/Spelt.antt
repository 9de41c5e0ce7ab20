-- The letters written so far and those still to come are the record's letter list, all the way down. Assumes nothing.
use mathlib.Core.Path.{◌≡◌, refl, sym, ◌∙◌, subst}
use mathlib.Core.List.{List, [], ◌++◌, append_assoc}
use Prim.Native.Nat.{ℕ, suc, ◌+◌, ◌*◌, ◌≤◌}
use native.Mathlib.Omega.{arith}
use lib.ListN.{length, length-append}
use Rattle.matrix.specs.declared.Matrix.{Matrix}
use Rattle.matrix.specs.Matrix.{Unitary}
use Rattle.ring.specs.declared.Vector.{Vector}
use Rattle.accept_record.specs.Accept.{AcceptedRecord}
use Rattle.complete.specs.declared.Rest.{Rest}
use Rattle.complete.specs.Vector.{vector_of}
use Rattle.complete.specs.Descent.{rest, syllable_taken, past_syllable, word_below, word_of}
use Rattle.complete.proofs.Complete.{guided_of_unitary, word_letters, word_means}
use Rattle.accepted_to_form.specs.Descends.{Descends}
use Rattle.accepted_to_form.specs.Letters.{Spelt, most_letters}
use Rattle.accepted_to_form.proofs.Descends.{descends_start, descends_syllable}
use Rattle.accepted_to_form.proofs.Taken.{length_syllable}

-- on the way down: what is left descends, there is room for its letters, and those written and those still to come are the
-- letter list of the record
pub record UnderWay (m : Matrix) (left : ℕ) (r : Rest) (letters : List ℕ) : Type 0 where
  pub descends : Descends r left
  pub room : length letters + 3 * left + 14 ≤ most_letters
  pub whole : letters ++ word_below left r ≡ word_of m

-- before the first step
pub at_start : {m : Matrix} {v : Vector} {letters : List ℕ} → AcceptedRecord m → v ≡ vector_of m → letters ≡ [] →
    UnderWay m (2 * m.exponent) (rest m v) letters
unfolding word_of
at_start {m} {v} {letters} accepted e none =
    let twice : m.exponent + m.exponent ≡ 2 * m.exponent = omega arith in
    subst (λ (n : ℕ). UnderWay m n (rest m v) letters) twice
    (subst (λ (w : Vector). UnderWay m (m.exponent + m.exponent) (rest m w) letters) (sym e)
    (subst (UnderWay m (m.exponent + m.exponent) (rest m (vector_of m))) (sym none)
    (record {
      descends = descends_start accepted.unitary accepted.inside.exponent;
      room = omega (arith, accepted.inside.exponent);
      whole = refl;
    })))

-- a step down: its letters are written, and the rest is still to come
pub step_down : {m : Matrix} {n : ℕ} {r r' : Rest} {letters letters' : List ℕ} → UnderWay m (suc n) r letters →
    letters' ≡ letters ++ syllable_taken r → r' ≡ past_syllable r → UnderWay m n r' letters'
unfolding word_below
step_down {m} {n} {r} {r'} {letters} {letters'} way e f =
    subst (λ (s : Rest). UnderWay m n s letters') (sym f)
    (subst (UnderWay m n (past_syllable r)) (sym e)
    (record {
      descends = descends_syllable way.descends;
      room = omega (arith, way.room, length-append letters (syllable_taken r), length_syllable r);
      whole = append_assoc letters (syllable_taken r) (word_below n (past_syllable r)) ∙ way.whole;
    }))

-- the record's letter list has letters alone, and the record's matrix
pub spelt : {m : Matrix} {text : List ℕ} → Unitary m → text ≡ word_of m → Spelt m text
unfolding word_of
spelt {m} unitary e =
    subst (Spelt m) (sym e)
    (record {
      letters = word_letters (m.exponent + m.exponent) (rest m (vector_of m));
      same = word_means (m.exponent + m.exponent) (rest m (vector_of m)) (guided_of_unitary unitary);
    })
