-- `accepted_to_form::Descent::put_letters` meets its contract: it is under way from the start, a step down for each turn. Assumes nothing.
use Rattle.std.proofs.Common.{◌≡◌, ℕ, suc, ◌+◌, ◌*◌, ◌-◌, ◌<◌, ◌∙◌, subst, arith}
use Rattle.matrix.proofs.Small.{unitary_is_small}
use Rattle.complete.specs.Descent.{rest as a_rest}
use Rattle.accepted_to_form.specs.Descends.{Descends}
use Rattle.accepted_to_form.proofs.Spelt.{UnderWay, at_start, step_down, spelt}
use Rattle.accepted_to_form.proofs.Descent.put_letters.Goals as goal

-- what is left before a turn is one more than after it
one_more : (turns done : ℕ) → done < turns → turns - done ≡ suc (turns - (done + 1))
one_more turns done h = omega arith

pub vector_of-vector-requires : goal.vector_of-vector-requires
vector_of-vector-requires c =
    let small = unitary_is_small 20 c.requires.accepted.unitary c.requires.accepted.inside.exponent in
    record { small = small.top_left; small_2 = small.bottom_left }

pub loop-init : goal.loop-init
loop-init c =
    let m = c.args.«record» in
    let all : 2 * m.exponent ≡ 2 * m.exponent - 0 = omega arith in
    subst (λ (n : ℕ). UnderWay m n (a_rest m c.vector_of-vector.result) c.args.self.now.letters.items) all
    (at_start c.requires.accepted c.vector_of-vector.ensures c.requires.none_yet)

pub put_syllable-rest-requires : goal.put_syllable-rest-requires
put_syllable-rest-requires c = record {
  room = omega (arith, c.loop.invariant.room, c.loop-test.true);
  above_zero = record {
    below = 2 * c.args.«record».exponent - (c.loop.counter + 1);
    descends = subst (Descends c.loop.rest) (one_more _ c.loop.counter (omega (arith, c.loop-test.true))) c.loop.invariant.descends;
  };
}

pub loop-preserved : goal.loop-preserved
loop-preserved c =
    let way = subst (λ (n : ℕ). UnderWay c.args.«record» n c.loop.rest c.loop.self.letters.items) (one_more _ c.loop.counter (omega (arith, c.loop-test.true)))
    c.loop.invariant in
    step_down way c.put_syllable-rest.ensures.written c.put_syllable-rest.ensures.rest

pub put_end-requires : goal.put_end-requires
put_end-requires c =
    let none_left : 2 * c.args.«record».exponent - c.loop.counter ≡ 0 = omega (arith, c.loop-test.false) in
    record {
      room = omega (arith, c.loop.invariant.room);
      descends = subst (Descends c.loop.rest) none_left c.loop.invariant.descends;
    }

pub returns-clause-spelt : goal.returns-clause-spelt
returns-clause-spelt c =
    let none_left : 2 * c.args.«record».exponent - c.loop.counter ≡ 0 = omega (arith, c.loop-test.false) in
    let way = subst (λ (n : ℕ). UnderWay c.args.«record» n c.loop.rest c.loop.self.letters.items) none_left c.loop.invariant in
    spelt c.requires.accepted.unitary (c.put_end.ensures.written ∙ way.whole)
