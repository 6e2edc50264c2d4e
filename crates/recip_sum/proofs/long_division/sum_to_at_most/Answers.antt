use Rattle.std.proofs.Common.{◌-◌, ◌*◌, ◌^◌, arith, refl}
use Rattle.recip_sum.proofs.Undecided.{IsUndecided-start, IsUndecided-more, at_most_from_enough, above_from_short, at_most_from_last}
use Rattle.recip_sum.proofs.long_division.sum_to_at_most.Goals as goal

pub loop-turn-init : goal.loop-turn-init
loop-turn-init g c = (IsUndecided-start c.args.terms.now c.args.lanes c.requires.terms, omega arith)

pub returns-then-whole-items-clause-exact : goal.returns-then-whole-items-clause-exact
returns-then-whole-items-clause-exact g c =
    let l = c.loop-turn in (
      (λ _. at_most_from_enough c.args.terms.now l.terms c.args.lanes l._turn l.whole l.invariant.0
          (omega arith)),
      (λ _. refl),
    )

pub returns-then-shifted-digits-clause-exact : goal.returns-then-shifted-digits-clause-exact
returns-then-shifted-digits-clause-exact g c =
    let l = c.loop-turn in
    let e = c.take_digits-digits.ensures.digits in
    let above = above_from_short c.args.terms.now l.terms c.args.lanes l._turn l.whole l.invariant.0
    (omega arith) in
    ((λ never. cc), (λ fits. absurd (omega arith)))

pub loop-turn-preserved : goal.loop-turn-preserved
loop-turn-preserved g c =
    let l = c.loop-turn in
    let e = c.take_digits-digits.ensures.digits in
    let next = IsUndecided-more c.args.terms.now l.terms c.args.lanes l._turn l.whole
    (l.whole * 2 ^ 32 - c.take_digits-digits.result) l.invariant.0 (omega arith) in (
      rw c.take_digits-digits.ensures.terms next,
      omega (
        arith,
        c.take_digits-digits.ensures.steps,
        l.invariant.1,
      ),
    )

pub returns-clause-exact : goal.returns-clause-exact
returns-clause-exact g c =
    let l = c.loop-turn in (
      (λ _.
          at_most_from_last c.args.terms.now l.terms c.args.lanes l._turn l.whole l.invariant.0
          (omega arith) (omega arith) c.requires.terms),
      (λ _. refl),
    )
