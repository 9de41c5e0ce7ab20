-- Prefixes of texts: what a beginning tells of a text's bytes and length, and the part from a place on. Assumes nothing.
use Prim.Native.Nat.{ℕ, ◌-◌, ◌≤◌, ◌<◌}
use native.Mathlib.Omega.{arith}
use mathlib.Core.List.{List, ◌++◌}
use mathlib.Core.Path.{◌≡◌, sym, ap, ◌∙◌}
use lib.ListN.{length, take, drop, get_or, length-append, length-take, length-drop}
use lib.Seq.{take-take, take-append_seam, get_or-take, take_all}

-- texts that begin alike have the same bytes there
pub byte_of_front :
    (text front : List ℕ) (i : ℕ) → i < length front → take (length front) text ≡ front →
    get_or text i 0 ≡ get_or front i 0
byte_of_front text front i below same = sym (get_or-take (length front) text i 0 below) ∙ ap (λ (s : List ℕ). get_or s i 0) same

-- a text that begins with another is as long
pub front_within : (text front : List ℕ) → take (length front) text ≡ front → length front ≤ length text
front_within text front same = omega (arith, ap length same, length-take (length front) text)

-- the part of a text that starts at n, as a slice to the end
pub to_the_end : (n : ℕ) (s : List ℕ) → take (length s - n) (drop n s) ≡ drop n s
to_the_end n s = take_all (length s - n) (drop n s) (omega (arith, length-drop n s))

-- a prefix tells how the text begins
pub front_of_prefix : (text lead u : List ℕ) (n : ℕ) → take n text ≡ lead ++ u → take (length lead) text ≡ lead
front_of_prefix text lead u n same =
    let long : length lead ≤ n = omega (arith, ap length same, length-take n text, length-append lead u) in
    sym (take-take (length lead) n text long) ∙ ap (take (length lead)) same ∙ take-append_seam lead u
