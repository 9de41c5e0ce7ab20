-- Document 01, "Frames": the frame of H, digit for digit. Assumes nothing.
use Rattle.std.proofs.Common.{◌≡◌, ◌++◌, refl}
use Rattle.ring.specs.Element.{one, negation}
use Rattle.matrix.specs.Letter.{gate_H}
use Rattle.matrix.specs.Text.{bytes}
use Rattle.coefficients.specs.Coefficients.{coefficients}
use Rattle.frame.specs.Digit.{digit, digits}
use Rattle.frame.specs.Frame.{word, words, words_text, total, check_word, frame_text}

pub frame_of_H :
    frame_text gate_H (check_word gate_H)
    ≡ bytes "01"
    ++ (bytes "00000001000000000000000000000000"
    ++ (bytes "00000001000000000000000000000000"
    ++ (bytes "00000001000000000000000000000000"
    ++ (bytes "ffffffff000000000000000000000000"
    ++ bytes "00000003"))))
unfolding frame_text check_word words_text words word total digits digit coefficients gate_H one negation bytes
frame_of_H = refl
