-- What string to form says, with room for every form, as string to matrix needs it: a refusal of the string, or the form at
-- the start of the buffer, by whose T's the string is refused or expanded. Assumes nothing.
use Prim.Native.Nat.{ℕ, ◌≤◌, ◌<◌}
use native.Mathlib.Omega.{arith}
use mathlib.Core.List.{List}
use mathlib.Core.Path.{◌≡◌, refl, ap, subst, ◌∙◌}
use lib.ListN.{length, take}
use Rattle.matrix.proofs.Same.{same_refl}
use Rattle.matrix.specs.declared.Matrix.{Matrix}
use Rattle.matrix.specs.Letter.{matrix_of}
use Rattle.form.specs.Form.{Form, FormOf}
use Rattle.form.specs.Count.{t_count}
use Rattle.answer.specs.declared.Refusal.{Refusal}
use Rattle.answer.specs.declared.Refusal.TheVariants.{HighLeastExponent}
use Rattle.answer.specs.declared.Figures.{Figures}
use Rattle.answer.specs.Limits.{form_limit}
use Rattle.answer.specs.Refusal.{Said, accepted, refusal}
use Rattle.answer.specs.Written.{figures_of, PutForm, no_room, room}
use Rattle.answer.proofs.Put.{put_stands}
use Rattle.answer.proofs.Told.{refusal_told}
use Rattle.alphabet.specs.String.{AcceptedString}
use Rattle.extend_form.proofs.Exists.{form_length_within}
use Rattle.unique.proofs.Normal.{no_fewer_ts}
use Rattle.string_to_form.specs.Promise.{StringToForm, refused_string, with_form}
use Rattle.string_to_matrix.specs.Promise.{StringToMatrix}
use Rattle.string_to_matrix.specs.Room.{t_limit}
use Rattle.string_to_matrix.proofs.High.{many_T's, short_form, as_its_form}

-- the form of an accepted string has room
form_has_room : {text f : List ℕ} → AcceptedString text → FormOf text f → length f ≤ form_limit
form_has_room {text} a form =
    let within = a.within in
    omega (arith, form_length_within text form.form (no_fewer_ts a.letters form (same_refl (matrix_of text))))

-- and what has room is written
not_refused : {f before after : List ℕ} {answer : Said Figures} (r : Refusal) → length f ≤ length before →
    PutForm f before answer after → answer ≡ refusal r → ⊥
not_refused r has_room (no_room short) e = omega arith
not_refused r has_room (room fits) e = let z : ◌≡◌ {A = ℕ} 0 1 = cc in omega arith

-- so what is refused is the string
refused_as : {text before after : List ℕ} {answer : Said Figures} (r : Refusal) → form_limit ≤ length before →
    StringToForm text before answer after → answer ≡ refusal r → StringToMatrix text (refusal r)
refused_as {text} r large (refused_string {r = s} refused) e =
    subst (λ (x : Refusal). StringToMatrix text (refusal x)) (refusal_told s r e) (StringToMatrix.refused_string refused)
refused_as r large (with_form a form written) e = absurd (let has_room = form_has_room a form in not_refused r (omega arith) written e)

pub refused_too : {text before after : List ℕ} (r : Refusal) → form_limit ≤ length before →
    StringToForm text before (refusal r) after → StringToMatrix text (refusal r)
refused_too r large told = refused_as r large told refl

-- what is accepted has its form at the start of the buffer
pub record Formed (text before : List ℕ) (x : Figures) (after : List ℕ) : Type 0 where
  pub form : List ℕ
  pub accepted_string : AcceptedString text
  pub form_of : FormOf text form
  pub t_counted : x.tcount ≡ t_count form
  pub fits : x.length ≤ length before
  pub start : take x.length after ≡ form

pub formed : {text before after : List ℕ} {x : Figures} → StringToForm text before (accepted x) after → Formed text before x after
unfolding figures_of
formed {after = after} {x = x} (with_form {f} a form_of put) =
    let stands = put_stands put in
    let long : x.length ≡ length f = ap (λ (y : Figures). y.length) stands.figures in
    record {
      form = f;
      accepted_string = a;
      form_of = form_of;
      t_counted = ap (λ (y : Figures). y.tcount) stands.figures;
      fits = omega (arith, stands.fits);
      start = ap (λ (k : ℕ). take k after) long ∙ stands.start;
    }

-- a form with many T's is refused
pub formed_many : {text before after : List ℕ} {x : Figures} →
    StringToForm text before (accepted x) after → t_limit < x.tcount → StringToMatrix text (refusal HighLeastExponent)
formed_many told many = let f = formed told in many_T's f.accepted_string f.form_of (omega (arith, f.t_counted))

-- one with few T's is expanded in place of the string
pub formed_few : {text before after : List ℕ} {x : Figures} →
    StringToForm text before (accepted x) after → x.tcount ≤ t_limit → Form (take x.length after) × (t_count (take x.length after) ≤ t_limit)
formed_few told few = let f = formed told in rw f.start (f.form_of.form, omega (arith, f.t_counted))

pub formed_answer : {text before after : List ℕ} {x : Figures} {answer : Said Matrix} →
    StringToForm text before (accepted x) after → x.tcount ≤ t_limit → StringToMatrix (take x.length after) answer → StringToMatrix text answer
formed_answer told few fits =
    let f = formed told in
    let few_T's : t_count f.form ≤ t_limit = omega (arith, f.t_counted) in
    as_its_form f.accepted_string f.form_of (short_form f.form_of.form few_T's) (rw f.start at fits)
