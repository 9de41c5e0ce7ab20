-- Numbers in lower-case hexadecimal digits: which bytes are digits, that digits are digits, how many there are, and that
-- they tell the number. Assumes nothing.
use Rattle.std.proofs.Common.{eqb, ◌&&◌, take-suc, take_all, subst, ◌≡◌, ℕ, zero, suc, ◌+◌, ◌-◌, ◌*◌, ◌/◌, ◌%◌, ◌^◌, ◌<◌, ◌≤◌, Bool, true, false, cond, ltb, ◌⊎◌, List, [], ◌∷◌, ◌++◌, length, get_or, take, drop, sym, refl, ap, ◌∙◌, ap₂, inl, inr, true≢false, pow-suc, arith, length-append, ltb-false, ltb-true, le-ltb, lt-ltb, le-leb}
use Rattle.std.specs.List.{fold}
use Rattle.std.proofs.lemmas.Bool.{eqb-true, eq-eqb}
use Rattle.std.proofs.lemmas.List.Sums.{fold_push}
use Rattle.std.proofs.lemmas.List.Folds.{fold_stays}
use borrow.Author.Tests.{lt-leb}
use lib.Seq.{take-append_seam, drop-append_seam}
use Rattle.lists.specs.List.{none, more}
use Rattle.lists.proofs.List.{every_join, every_member}
use Rattle.frame.specs.Digit.{digit, is_digit, digits, Digits}
use Rattle.frame.specs.Parts.{digit_value, number_of}

-- ---- one digit
pub digit_low : (n : ℕ) → n < 10 → digit n ≡ 48 + n
unfolding digit
digit_low n h = ap (λ (t : Bool). cond t (48 + n) (87 + n)) (lt-ltb n 10 h)

pub digit_high : (n : ℕ) → 10 ≤ n → digit n ≡ 87 + n
unfolding digit
digit_high n h = ap (λ (t : Bool). cond t (48 + n) (87 + n)) (le-ltb n 10 h)

-- a number is below ten or not
by_ten : (n : ℕ) → (n < 10) ⊎ (10 ≤ n)
by_ten n = by (ltb n 10) refl
  where
    by : (t : Bool) → ltb n 10 ≡ t → (n < 10) ⊎ (10 ≤ n)
    by true e = inl (ltb-true n 10 e)
    by false e = inr (ltb-false n 10 e)

pub digit_once : (m n : ℕ) → m < 16 → n < 16 → digit m ≡ digit n → m ≡ n
digit_once m n h k e = by (by_ten m) (by_ten n)
  where
    by : (m < 10) ⊎ (10 ≤ m) → (n < 10) ⊎ (10 ≤ n) → m ≡ n
    by (inl a) (inl b) = omega (arith, digit_low m a, digit_low n b)
    by (inl a) (inr b) = absurd (omega (arith, digit_low m a, digit_high n b))
    by (inr a) (inl b) = absurd (omega (arith, digit_high m a, digit_low n b))
    by (inr a) (inr b) = omega (arith, digit_high m a, digit_high n b)

-- which bytes are digits
pub low_digit : (b : ℕ) → 48 ≤ b → b ≤ 57 → is_digit b ≡ true
unfolding is_digit
low_digit b h k = simp (le-leb 48 b h, le-leb b 57 k)

pub high_digit : (b : ℕ) → 97 ≤ b → b ≤ 102 → is_digit b ≡ true
unfolding is_digit
high_digit b h k = simp (le-leb 97 b h, le-leb b 102 k, lt-leb b 57 (omega arith), le-leb 48 b (omega arith))

pub below_digits : (b : ℕ) → b < 48 → is_digit b ≡ false
unfolding is_digit
below_digits b h = simp (lt-leb 48 b h, lt-leb 97 b (omega arith))

pub between_digits : (b : ℕ) → 57 < b → b < 97 → is_digit b ≡ false
unfolding is_digit
between_digits b h k = simp (le-leb 48 b (omega arith), lt-leb b 57 h, lt-leb 97 b k)

pub above_digits : (b : ℕ) → 102 < b → is_digit b ≡ false
unfolding is_digit
above_digits b h = simp (le-leb 48 b (omega arith), lt-leb b 57 (omega arith), le-leb 97 b (omega arith), lt-leb b 102 h)

pub digit_is_digit : (n : ℕ) → n < 16 → is_digit (digit n) ≡ true
digit_is_digit n h = by (by_ten n)
  where
    by : (n < 10) ⊎ (10 ≤ n) → is_digit (digit n) ≡ true
    by (inl a) = ap is_digit (digit_low n a) ∙ low_digit (48 + n) (omega arith) (omega arith)
    by (inr a) = ap is_digit (digit_high n a) ∙ high_digit (87 + n) (omega arith) (omega arith)

-- a digit below 58 is one of 0-9, and any other one of a-f
pub low_range : (b : ℕ) → is_digit b ≡ true → b < 58 → 48 ≤ b
low_range b e h = by (ltb b 48) refl
  where
    by : (t : Bool) → ltb b 48 ≡ t → 48 ≤ b
    by true f = absurd (true≢false (sym e ∙ below_digits b (ltb-true b 48 f)))
    by false f = ltb-false b 48 f

pub high_range : (b : ℕ) → is_digit b ≡ true → 58 ≤ b → (97 ≤ b) × (b ≤ 102)
high_range b e h = by (ltb b 97) (ltb 102 b) refl refl
  where
    by : (t u : Bool) → ltb b 97 ≡ t → ltb 102 b ≡ u → (97 ≤ b) × (b ≤ 102)
    by true u f g = absurd (true≢false (sym e ∙ between_digits b h (ltb-true b 97 f)))
    by false true f g = absurd (true≢false (sym e ∙ above_digits b (ltb-true 102 b g)))
    by false false f g = (ltb-false b 97 f, ltb-false 102 b g)

-- the number that a digit stands for
pub low_value : (b : ℕ) → is_digit b ≡ true → b < 58 → b ≡ digit (b - 48)
low_value b e h = let r = low_range b e h in omega (arith, digit_low (b - 48) (omega arith))

pub high_value : (b : ℕ) → is_digit b ≡ true → 58 ≤ b → b ≡ digit (b - 87)
high_value b e h = let r = high_range b e h in omega (arith, digit_high (b - 87) (omega arith))

-- a digit is the digit for its number
pub digit_of_value : (b : ℕ) → is_digit b ≡ true → digit (digit_value b) ≡ b
unfolding digit_value
digit_of_value b e = by (ltb b 58) refl
  where
    by : (t : Bool) → ltb b 58 ≡ t → digit ((b % 16 + 9 * (b / 64)) % 16) ≡ b
    by true f =
        let below = ltb-true b 58 f in
        let from = low_range b e below in
        ap digit (omega arith) ∙ sym (low_value b e below)
    by false f =
        let above = ltb-false b 58 f in
        let between = high_range b e above in
        ap digit (omega arith) ∙ sym (high_value b e above)

pub digit_value_below : (b : ℕ) → digit_value b < 16
unfolding digit_value
digit_value_below b = omega arith

-- and any other byte is not the digit for its number
pub is_its_digit : (b : ℕ) → eqb (digit (digit_value b)) b ≡ is_digit b
is_its_digit b = by (eqb (digit (digit_value b)) b) (is_digit b) refl refl
  where
    by : (t u : Bool) → eqb (digit (digit_value b)) b ≡ t → is_digit b ≡ u → t ≡ u
    by true true e f = refl
    by false false e f = refl
    by true false e f = absurd (true≢false (sym (digit_is_digit (digit_value b) (digit_value_below b)) ∙ ap is_digit (eqb-true _ _ e) ∙ f))
    by false true e f = absurd (true≢false (sym (eq-eqb (digit (digit_value b)) b (digit_of_value b f)) ∙ e))

-- whether all bytes of a text are digits, as a walk to its end keeps it
abbrev pub still_digits : Bool → ℕ → Bool
still_digits all b = all && is_digit b

pub digits_by_fold : (text : List ℕ) → fold still_digits true text ≡ true → Digits text
digits_by_fold [] e = none
digits_by_fold (b ∷ text) e = by (is_digit b) refl e (digits_by_fold text)
  where
    by : (t : Bool) → is_digit b ≡ t → fold still_digits t text ≡ true → (fold still_digits true text ≡ true → Digits text) → Digits (b ∷ text)
    by true same kept rest = more same (rest kept)
    by false same kept rest = absurd (true≢false (sym kept ∙ fold_stays still_digits false (λ x. refl) text))

pub fold_of_digits : {text : List ℕ} → Digits text → fold still_digits true text ≡ true
fold_of_digits none = refl
fold_of_digits (more {s = text} e rest) = ap (λ (t : Bool). fold still_digits t text) e ∙ fold_of_digits rest

-- ---- numbers in digits
pub digits_length : (k n : ℕ) → length (digits k n) ≡ k
unfolding digits
digits_length zero n = refl
digits_length (suc k) n = simp length-append (omega (arith, digits_length k (n / 16)))

pub digits_are_digits : (k n : ℕ) → Digits (digits k n)
unfolding digits
digits_are_digits zero n = none
digits_are_digits (suc k) n =
    every_join (digits_are_digits k (n / 16)) (more (digit_is_digit (n % 16) (omega arith)) none)

-- a number with one digit more
pub digits_more : (k n d : ℕ) → d < 16 → digits (suc k) (n * 16 + d) ≡ digits k n ++ (digit d ∷ [])
unfolding digits
digits_more k n d h = ap₂ (λ (q r : ℕ). digits k q ++ (digit r ∷ [])) (omega arith) (omega arith)

-- digits are the number that they stand for, in as many digits
spelled_to : (text : List ℕ) (i : ℕ) → i ≤ length text → Digits text → take i text ≡ digits i (number_of (take i text))
unfolding digits
spelled_to text zero h all = refl
spelled_to text (suc i) h all =
    let b = get_or text i 0 in
    let before : i < length text = omega arith in
    let n = number_of (take i text) in
    let next : take (suc i) text ≡ take i text ++ (b ∷ []) = take-suc text i 0 before in
    next
    ∙ ap₂ (λ (s : List ℕ) (d : ℕ). s ++ (d ∷ [])) (spelled_to text i (omega arith) all) (sym (digit_of_value b (every_member 0 all i before)))
    ∙ sym (digits_more i n (digit_value b) (digit_value_below b))
    ∙ ap (digits (suc i)) (sym (ap number_of next ∙ fold_push (λ n b. n * 16 + digit_value b) 0 (take i text) b))

pub spelled : (text : List ℕ) → Digits text → text ≡ digits (length text) (number_of text)
spelled text all =
    let whole = take_all (length text) text (omega arith) in
    subst (λ (s : List ℕ). s ≡ digits (length text) (number_of s)) whole (spelled_to text (length text) (omega arith) all)

-- two joined texts are the same only where the parts are, if the first parts are as long
pub join_once : (s s' t t' : List ℕ) → length s ≡ length s' → s ++ t ≡ s' ++ t' → (s ≡ s') × (t ≡ t')
join_once s s' t t' l e = (
  sym (take-append_seam s t) ∙ ap₂ take l e ∙ take-append_seam s' t',
  sym (drop-append_seam s t) ∙ ap₂ drop l e ∙ drop-append_seam s' t',
)

-- digits tell the number
pub digits_once : (k m n : ℕ) → m < 16 ^ k → n < 16 ^ k → digits k m ≡ digits k n → m ≡ n
unfolding digits
digits_once zero m n h l e = omega arith
digits_once (suc k) m n h l e =
    let parts =
    join_once (digits k (m / 16)) (digits k (n / 16)) (digit (m % 16) ∷ []) (digit (n % 16) ∷ [])
    (digits_length k (m / 16) ∙ sym (digits_length k (n / 16))) e in
    let high : m / 16 ≡ n / 16 =
    digits_once k (m / 16) (n / 16) (omega (arith, pow-suc 16 k)) (omega (arith, pow-suc 16 k)) parts.0 in
    let low : m % 16 ≡ n % 16 =
    digit_once (m % 16) (n % 16) (omega arith) (omega arith) (ap (λ (s : List ℕ). get_or s 0 0) parts.1) in
    omega arith
