-- `frame::write_number` meets its contract. The loop's invariant: what is written from the loop's place on ends the digits of
-- the number, and what is left of it has as many digits as are not yet written. Assumes nothing.
use Rattle.std.proofs.Common.{◌≡◌, ℕ, suc, ◌-◌, ◌/◌, ◌%◌, ◌<◌, List, ◌∷◌, ◌++◌, length, take, drop, set, sym, refl, ap, ◌∙◌, append-nil, arith, length-set, length-take-le, drop_at}
use lib.Seq.{set_split, drop-length, append_snoc}
use Rattle.frame.specs.Digit.{digit, digits}
use Rattle.frame.proofs.write_number.Goals as goal

-- one digit more, before those that are written
written : (part : List ℕ) (j rest : ℕ) → j < length part →
    digits (suc j) rest ++ drop (suc j) part ≡ digits j (rest / 16) ++ drop j (set part j (digit (rest % 16)))
unfolding digits
written part j rest h =
    append_snoc (digits j (rest / 16)) (digit (rest % 16)) (drop (suc j) part)
    ∙ ap (λ (s : List ℕ). digits j (rest / 16) ++ s)
    (sym (ap (drop j) (set_split part j (digit (rest % 16)) h)
    ∙ drop_at (take j part) (digit (rest % 16) ∷ drop (suc j) part) j (length-take-le j part (omega arith))))

pub loop-i-init : goal.loop-i-init
loop-i-init c =
    let part = c.args.part.now in
    record {
      long = refl;
      left = sym (ap (λ (s : List ℕ). digits (length part) c.args.n ++ s) (drop-length part) ∙ append-nil _);
    }

pub loop-i-preserved : goal.loop-i-preserved
loop-i-preserved c =
    let l = c.loop-i in
    let j = l.i - 1 in
    let test = c.loop-i-test.true in
    let e : l.i ≡ suc j = omega arith in
    record {
      long = length-set l.part j c.digit_of.result ∙ l.invariant.long;
      left =
          l.invariant.left
          ∙ ap (λ (k : ℕ). digits k l.rest ++ drop k l.part) e
          ∙ written l.part j l.rest (omega arith)
          ∙ ap (λ (b : ℕ). digits j (l.rest / 16) ++ drop j (set l.part j b)) (sym c.digit_of.ensures);
    }

pub returns : goal.returns
unfolding digits
returns c =
    let l = c.loop-i in
    let e : l.i ≡ 0 = omega arith in
    sym (l.invariant.left ∙ ap (λ (k : ℕ). digits k l.rest ++ drop k l.part) e)
