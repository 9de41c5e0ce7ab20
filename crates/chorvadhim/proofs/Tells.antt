-- The answer word tells what was said: two legible answers with the same word are the same answer, for each kind of call;
-- where a matrix is answered, the word with the lent array does. Assumes nothing.
use Prim.Native.Nat.{ℕ, ◌+◌, ◌*◌, ◌^◌, ◌<◌}
use native.Mathlib.Omega.{arith}
use mathlib.Core.List.{List}
use mathlib.Core.Path.{◌≡◌, refl, ap}
use lib.IntN.{ℤ}
use Rattle.matrix.specs.declared.Matrix.{Matrix}
use Rattle.answer.specs.declared.Figures.{Figures}
use Rattle.answer.specs.Refusal.{Said, accepted, refused}
use Rattle.coefficients.proofs.ReadBack.{coefficients_once}
use Rattle.read_form.specs.declared.Reading.{Reading}
use Rattle.compare.specs.declared.Which.{Which}
use Rattle.compare.specs.declared.Which.TheVariants.{First, Second}
use Rattle.compare.specs.Promise.{Verdict, same, phase, different, refused as refused_of}
use Rattle.chorvadhim.specs.Word.{packed, figures_word, reading_word, record_word, verdict_word, which_number, Legible, LegibleFigures, LegibleReading, LegibleRecord, LegibleVerdict}
use Rattle.chorvadhim.specs.Promise.{left_in}

-- the lowest 16 bits of a number, and what stands above them
low_told : (l k t u : ℕ) → l < 2 ^ 16 → k < 2 ^ 16 → l + 2 ^ 16 * t ≡ k + 2 ^ 16 * u → (l ≡ k) × (t ≡ u)
low_told l k t u p q e = omega arith

-- three values, from bit 8 up, the first two of 16 bits
three_told :
    (l t h k u j : ℕ) → l < 2 ^ 16 → t < 2 ^ 16 → k < 2 ^ 16 → u < 2 ^ 16 →
    2 ^ 8 * l + 2 ^ 24 * t + 2 ^ 40 * h ≡ 2 ^ 8 * k + 2 ^ 24 * u + 2 ^ 40 * j → (l ≡ k) × ((t ≡ u) × (h ≡ j))
three_told l t h k u j a b c d e =
    let low = low_told l k (t + 2 ^ 16 * h) (u + 2 ^ 16 * j) a c (omega arith) in
    (low.0, low_told t u h j b d low.1)

refusal_made : {A : Type 0} {n m p q : ℕ} → n ≡ m → p ≡ q → ◌≡◌ {A = Said A} (refused n p) (refused m q)
refusal_made e f = cc

-- an answer with a form

abbrev figures : ℕ → ℕ → ℕ → Figures
figures l t h = record { length = l; tcount = t; hcount = h }

figures_made : (l t h k u j : ℕ) → l ≡ k → t ≡ u → h ≡ j → figures l t h ≡ figures k u j
figures_made l t h k u j e f g = cc

pub figures_told :
    (a b : Said Figures) → Legible LegibleFigures a → Legible LegibleFigures b →
    packed figures_word a ≡ packed figures_word b → a ≡ b
figures_told (accepted x) (accepted y) p q e =
    let told = three_told x.length x.tcount x.hcount y.length y.tcount y.hcount
    p.length p.tcount q.length q.tcount e in
    ap accepted (figures_made x.length x.tcount x.hcount y.length y.tcount y.hcount told.0 told.1.0 told.1.1)
figures_told (accepted x) (refused n o) p q e = absurd (omega arith)
figures_told (refused n o) (accepted y) p q e = absurd (omega arith)
figures_told (refused n o) (refused m r) p q e = refusal_made (omega arith) (omega arith)

-- the form reader's answer

abbrev reading : ℕ → ℕ → ℕ → ℕ → Reading
reading l t h n = record { figures = figures l t h; tail = n }

reading_made : (l t h n k u j m : ℕ) → l ≡ k → t ≡ u → h ≡ j → n ≡ m → reading l t h n ≡ reading k u j m
reading_made l t h n k u j m e f g d = cc

pub reading_told :
    (a b : Said Reading) → Legible LegibleReading a → Legible LegibleReading b →
    packed reading_word a ≡ packed reading_word b → a ≡ b
reading_told (accepted x) (accepted y) p q e =
    let f = x.figures in
    let g = y.figures in
    let told = three_told f.length f.tcount (f.hcount + 2 ^ 16 * x.tail) g.length g.tcount (g.hcount + 2 ^ 16 * y.tail)
    p.figures.length p.figures.tcount q.figures.length q.figures.tcount (omega arith) in
    let high = low_told f.hcount g.hcount x.tail y.tail p.figures.hcount q.figures.hcount told.1.1 in
    ap accepted
    (reading_made f.length f.tcount f.hcount x.tail g.length g.tcount g.hcount y.tail
    told.0 told.1.0 high.0 high.1)
reading_told (accepted x) (refused n o) p q e = absurd (omega arith)
reading_told (refused n o) (accepted y) p q e = absurd (omega arith)
reading_told (refused n o) (refused m r) p q e = refusal_made (omega arith) (omega arith)

-- a comparison's answer

verdict_refusal_made : (v w : Which) {n m p q : ℕ} → which_number v ≡ which_number w → n ≡ m → p ≡ q → refused_of v n p ≡ refused_of w m q
verdict_refusal_made First First d e f = cc
verdict_refusal_made First Second d e f = absurd (omega arith)
verdict_refusal_made Second First d e f = absurd (omega arith)
verdict_refusal_made Second Second d e f = cc

pub verdict_told : (a b : Verdict) → LegibleVerdict a → LegibleVerdict b → verdict_word a ≡ verdict_word b → a ≡ b
verdict_told same same p q e = refl
verdict_told same (phase j) p q e = absurd (omega arith)
verdict_told same different p q e = absurd (omega arith)
verdict_told same (refused_of w m r) p q e = absurd (omega arith)
verdict_told (phase i) same p q e = absurd (omega arith)
verdict_told (phase i) (phase j) p q e = ap phase (omega arith)
verdict_told (phase i) different p q e = absurd (omega arith)
verdict_told (phase i) (refused_of w m r) p q e = absurd (omega arith)
verdict_told different same p q e = absurd (omega arith)
verdict_told different (phase j) p q e = absurd (omega arith)
verdict_told different different p q e = refl
verdict_told different (refused_of w m r) p q e = absurd (omega arith)
verdict_told (refused_of v n o) same p q e = absurd (omega arith)
verdict_told (refused_of v n o) (phase j) p q e = absurd (omega arith)
verdict_told (refused_of v n o) different p q e = absurd (omega arith)
verdict_told (refused_of v n o) (refused_of w m r) p q e = verdict_refusal_made v w (omega arith) (omega arith) (omega arith)

-- an answer with a matrix

pub record_told :
    (a b : Said Matrix) (before : List ℤ) → Legible LegibleRecord a → Legible LegibleRecord b →
    packed record_word a ≡ packed record_word b → left_in a before ≡ left_in b before → a ≡ b
record_told (accepted m) (accepted n) before p q e f = ap accepted (coefficients_once m n (omega arith) f)
record_told (accepted m) (refused n o) before p q e f = absurd (omega arith)
record_told (refused n o) (accepted m) before p q e f = absurd (omega arith)
record_told (refused n o) (refused m r) before p q e f = refusal_made (omega arith) (omega arith)
