-- Whatever the promise of a call lets be said is legible in the answer word: each value fits in its bits.
-- Assumes nothing.
use Prim.Native.Nat.{ℕ, ◌≤◌}
use native.Mathlib.Omega.{arith}
use mathlib.Core.List.{List}
use lib.ListN.{length}
use Rattle.lists.proofs.List.{fails_within}
use Rattle.matrix.specs.declared.Matrix.{Matrix}
use Rattle.form.proofs.Count.{t_count_within, h_count_within}
use Rattle.answer.specs.declared.Figures.{Figures}
use Rattle.answer.specs.declared.Refusal.{Refusal}
use Rattle.answer.specs.Limits.{form_limit}
use Rattle.answer.specs.Refusal.{Said, number, place}
use Rattle.answer.specs.Written.{PutForm, figures_of}
use Rattle.alphabet.specs.String.{RefusedString}
use Rattle.accept_record.specs.Accept.{RefusedRecord}
use Rattle.string_to_form.specs.Promise.{StringToForm}
use Rattle.matrix_to_form.specs.Promise.{MatrixToForm}
use Rattle.frame.specs.Calls.{RefusedFrame, FrameToMatrix, MatrixToFrame}
use Rattle.frame_to_form.specs.Promise.{FrameToForm}
use Rattle.read_form.specs.declared.Reading.{Reading}
use Rattle.read_form.specs.Promise.{ReadForm, reading_of}
use Rattle.compare.specs.Promise.{Verdict, Related, Compare}
use Rattle.string_to_matrix.specs.Promise.{StringToMatrix}
use Rattle.chorvadhim.specs.Word.{Legible, LegibleRefusal, LegibleFigures, LegibleReading, LegibleRecord, LegibleVerdict}
use Rattle.chorvadhim.proofs.Within.{wide_coefficient_within, bad_frame_within, form_of_string_within, form_of_record_within}

abbrev LegibleOf : Refusal → Type 0
LegibleOf r = LegibleRefusal (number r) (place r)

-- the refusals of a string, a record and a frame

string_refusal : {text : List ℕ} {r : Refusal} → RefusedString text r → LegibleOf r
string_refusal (RefusedString.too_long h) = omega arith
string_refusal (RefusedString.bad_letter h bad) = omega (arith, fails_within bad)

record_refusal : {m : Matrix} {r : Refusal} → RefusedRecord m r → LegibleOf r
record_refusal (RefusedRecord.high_exponent h) = omega arith
record_refusal {m} (RefusedRecord.wide_coefficient h wide) = omega (arith, wide_coefficient_within m wide)
record_refusal (RefusedRecord.not_unitary inside not) = omega arith

frame_refusal : {text : List ℕ} {r : Refusal} → RefusedFrame text r → LegibleOf r
frame_refusal (RefusedFrame.bad_frame bad) = omega (arith, bad_frame_within bad)
frame_refusal (RefusedFrame.bad_check_word spells wrong) = omega arith
frame_refusal (RefusedFrame.bad_record spells refused) = record_refusal refused

-- a form within the form limit, written or refused for want of room

put_legible :
    {f before after : List ℕ} {answer : Said Figures} → length f ≤ form_limit → PutForm f before answer after →
    Legible LegibleFigures answer
unfolding figures_of
put_legible short (PutForm.no_room h) = omega arith
put_legible {f} short (PutForm.room h) = omega (arith, t_count_within f, h_count_within f)

-- each call

pub string_to_form_legible :
    {text before after : List ℕ} {answer : Said Figures} → StringToForm text before answer after → Legible LegibleFigures answer
string_to_form_legible (StringToForm.refused_string refused) = string_refusal refused
string_to_form_legible (StringToForm.with_form accepted form put) = put_legible (form_of_string_within accepted form) put

pub matrix_to_form_legible :
    {m : Matrix} {before after : List ℕ} {answer : Said Figures} → MatrixToForm m before answer after → Legible LegibleFigures answer
matrix_to_form_legible (MatrixToForm.refused_record refused) = record_refusal refused
matrix_to_form_legible (MatrixToForm.with_form accepted form same put) = put_legible (form_of_record_within accepted form same) put

pub frame_to_form_legible :
    {text before after : List ℕ} {answer : Said Figures} → FrameToForm text before answer after → Legible LegibleFigures answer
frame_to_form_legible (FrameToForm.refused_frame refused) = frame_refusal refused
frame_to_form_legible (FrameToForm.with_form accepted form same put) =
    put_legible (form_of_record_within accepted.record_accepted form same) put

pub read_form_legible : {text : List ℕ} {answer : Said Reading} → ReadForm text answer → Legible LegibleReading answer
unfolding reading_of figures_of
read_form_legible (ReadForm.too_long h) = omega arith
read_form_legible (ReadForm.bad_letter h bad) = omega (arith, fails_within bad)
read_form_legible (ReadForm.not_form h letters not longest) = omega (arith, longest.within)
read_form_legible {text} (ReadForm.form h f) = omega (arith, t_count_within text, h_count_within text, f.in_tails)

relation_legible : {a b : List ℕ} {verdict : Verdict} → Related a b verdict → LegibleVerdict verdict
relation_legible (Related.equal same) = tt
relation_legible (Related.apart low high apart) = omega arith
relation_legible (Related.unlike not) = tt

pub compare_legible : {a b : List ℕ} {verdict : Verdict} → Compare a b verdict → LegibleVerdict verdict
compare_legible (Compare.first_refused refused) = string_refusal refused
compare_legible (Compare.second_refused accepted refused) = string_refusal refused
compare_legible (Compare.compared a b related) = relation_legible related

pub string_to_matrix_legible : {text : List ℕ} {answer : Said Matrix} → StringToMatrix text answer → Legible LegibleRecord answer
string_to_matrix_legible (StringToMatrix.refused_string refused) = string_refusal refused
string_to_matrix_legible (StringToMatrix.high_least_exponent accepted least high) = omega arith
string_to_matrix_legible (StringToMatrix.least_record accepted least low) = omega arith

pub frame_to_matrix_legible : {text : List ℕ} {answer : Said Matrix} → FrameToMatrix text answer → Legible LegibleRecord answer
frame_to_matrix_legible (FrameToMatrix.refused_frame refused) = frame_refusal refused
frame_to_matrix_legible (FrameToMatrix.accepted_frame accepted) =
    let low = accepted.record_accepted.inside.exponent in omega arith

pub matrix_to_frame_legible :
    {m : Matrix} {before after : List ℕ} {answer : Said (Unit {0})} → MatrixToFrame m before answer after →
    Legible (λ nothing. Unit {0}) answer
matrix_to_frame_legible (MatrixToFrame.refused_record refused) = record_refusal refused
matrix_to_frame_legible (MatrixToFrame.no_room accepted h) = omega arith
matrix_to_frame_legible (MatrixToFrame.framed accepted h) = tt
