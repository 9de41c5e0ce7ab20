-- Document 01, "The programs", the whole case for the first program, byte for byte: the lines of the answers to TT, HQ and
-- THT; and the line of an empty form, which keeps its last space. Assumes nothing.
use mathlib.Core.List.{[], ◌∷◌}
use mathlib.Core.Path.{◌≡◌, refl}
use Rattle.matrix.specs.Letter.{H, S, T}
use Rattle.answer.specs.declared.Refusal.TheVariants.{BadLetter}
use Rattle.answer.specs.Refusal.{accepted, refusal}
use Rattle.report.specs.Decimal.{digit, digits_of, decimal}
use Rattle.report.specs.Report.{field, head, ok_line, no_line, answer_line}

-- `ok 0 0 S`
pub line_of_TT : answer_line (accepted (record { length = 1; tcount = 0; hcount = 0 })) (S ∷ []) ≡ 111 ∷ 107 ∷ 32 ∷ 48 ∷ 32 ∷ 48 ∷ 32 ∷ 83 ∷ 10 ∷ []
unfolding digit digits_of decimal field head ok_line answer_line
line_of_TT = refl

-- `no 1 1`
pub line_of_HQ : answer_line (refusal (BadLetter 1)) [] ≡ 110 ∷ 111 ∷ 32 ∷ 49 ∷ 32 ∷ 49 ∷ 10 ∷ []
unfolding digit digits_of decimal field head no_line answer_line
line_of_HQ = refl

-- `ok 2 1 THT`
pub line_of_THT :
    answer_line (accepted (record { length = 3; tcount = 2; hcount = 1 })) (T ∷ H ∷ T ∷ [])
    ≡ 111 ∷ 107 ∷ 32 ∷ 50 ∷ 32 ∷ 49 ∷ 32 ∷ 84 ∷ 72 ∷ 84 ∷ 10 ∷ []
unfolding digit digits_of decimal field head ok_line answer_line
line_of_THT = refl

-- `ok 0 0 ` for the empty form
pub line_of_nothing : answer_line (accepted (record { length = 0; tcount = 0; hcount = 0 })) [] ≡ 111 ∷ 107 ∷ 32 ∷ 48 ∷ 32 ∷ 48 ∷ 32 ∷ 10 ∷ []
unfolding digit digits_of decimal field head ok_line answer_line
line_of_nothing = refl

-- the longest form's length, in decimal
pub decimal_of_form_limit : decimal 12301 ≡ 49 ∷ 50 ∷ 51 ∷ 48 ∷ 49 ∷ []
unfolding digit digits_of decimal
decimal_of_form_limit = refl
