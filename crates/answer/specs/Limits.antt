-- Document 01, "Limits" and "Frames": each limit, once.
use Rattle.std.specs.Prelude.{ℕ}

-- "Strings: 0 to 4,096 letters."
abbrev pub string_limit : ℕ
string_limit = 4096

-- "Forms reach at most 12,301 bytes, which is the form reader's limit."
abbrev pub form_limit : ℕ
form_limit = 12301

-- "Matrices: k from 0 to 40."
abbrev pub exponent_limit : ℕ
exponent_limit = 40

-- "each coefficient from −1,048,576 to 1,048,576"
abbrev pub coefficient_limit : ℕ
coefficient_limit = 1048576

-- "138 lower-case digits", and where the check word begins
abbrev pub frame_length : ℕ
frame_length = 138

abbrev pub check_word_place : ℕ
check_word_place = 130
