use Rattle.std.proofs.Common.{◌≡◌, ℕ, suc, ◌+◌, ◌-◌, ◌<◌, sym, subst, arith}
use Rattle.std.specs.Prelude.{Option}
use Rattle.tdm_cli.specs.declared.candidates.Candidate.{Candidate}
use Rattle.tdm_cli.specs.Running.{MeetsFrom}
use Rattle.tdm_cli.proofs.RunningLaws.{IsUnderWay, under_way-begins, under_way-ended, under_way-ends, under_way-went}
use Rattle.tdm_cli.proofs.rounds.all_rounds.Goals as goal

pub loop-done-init : goal.loop-done-init
loop-done-init c = record {
  weights = c.requires.weights;
  minimal = c.requires.minimal;
  best = c.requires.best;
  under_way = subst
      (λ (left : ℕ). IsUnderWay c.args.problem.now c.args.rounds c.args.running.now.weights.items
      c.args.running.now.trees left c.args.running.now.weights.items c.args.running.now.trees
      c.args.running.now.best.value c.args.running.now.best.certified.bound
      c.args.running.now.candidates.last)
      (let all : c.args.rounds ≡ c.args.rounds - 0 = omega arith in all)
      (under_way-begins c.args.problem.now c.args.rounds c.args.running.now.weights.items
      c.args.running.now.trees c.args.running.now.best.value c.args.running.now.best.certified.bound
      c.args.running.now.candidates.last);
  candidates = c.requires.candidates;
}

-- one round is left, and so many more
one-left : (rounds done : ℕ) → done < rounds → rounds - done ≡ suc (rounds - (done + 1))
one-left rounds done below = omega (arith, below)

pub returns-then-not-branch-clause-rounds : goal.returns-then-not-branch-clause-rounds
returns-then-not-branch-clause-rounds c some =
    let running = c.loop-done.running in
    let first = c.args.running.now in
    let new = c.round.new.running in
    subst (λ (last : Option Candidate). MeetsFrom c.args.problem.now c.args.rounds first.weights.items
    first.trees new.best.value new.best.certified.bound last)
    (sym (c.in_ok-round.ensures.kept c.if-not-branch.true some))
    (under_way-ended c.args.problem.now c.args.rounds first.weights.items first.trees
    (c.args.rounds - (c.loop-done.done + 1)) running.weights.items running.trees running.best.value
    running.best.certified.bound
    new.best.value new.best.certified.bound running.candidates.last
    (subst (λ (left : ℕ). IsUnderWay c.args.problem.now c.args.rounds first.weights.items first.trees left
    running.weights.items running.trees running.best.value running.best.certified.bound
    running.candidates.last)
    (one-left c.args.rounds c.loop-done.done c.loop-done-test.true) c.loop-done.invariant.under_way)
    c.in_ok-round.ensures.lower c.in_ok-round.ensures.higher
    (c.in_ok-round.ensures.ended c.if-not-branch.true some))

pub loop-done-preserved : goal.loop-done-preserved
loop-done-preserved c =
    let running = c.loop-done.running in
    let first = c.args.running.now in
    let new = c.round.new.running in
    record {
      weights = c.in_ok-round.ensures.weights;
      minimal = c.in_ok-round.ensures.minimal;
      best = c.in_ok-round.ensures.best;
      under_way = under_way-went c.args.problem.now c.args.rounds first.weights.items first.trees
          (c.args.rounds - (c.loop-done.done + 1)) running.weights.items new.weights.items running.trees
          new.trees running.best.value running.best.certified.bound
          new.best.value new.best.certified.bound running.candidates.last new.candidates.last
          (subst (λ (left : ℕ). IsUnderWay c.args.problem.now c.args.rounds first.weights.items first.trees
          left running.weights.items running.trees running.best.value running.best.certified.bound
          running.candidates.last)
          (one-left c.args.rounds c.loop-done.done c.loop-done-test.true) c.loop-done.invariant.under_way)
          c.in_ok-round.ensures.lower c.in_ok-round.ensures.higher
          (c.in_ok-round.ensures.went c.if-not-branch.false);
      candidates = c.in_ok-round.ensures.candidates;
    }

pub returns-clause-rounds : goal.returns-clause-rounds
returns-clause-rounds c some =
    let running = c.loop-done.running in
    let first = c.args.running.now in
    under_way-ends c.args.problem.now c.args.rounds first.weights.items first.trees running.weights.items
    running.trees running.best.value running.best.certified.bound running.candidates.last
    (subst (λ (left : ℕ). IsUnderWay c.args.problem.now c.args.rounds first.weights.items first.trees left
    running.weights.items running.trees running.best.value running.best.certified.bound
    running.candidates.last)
    (let none : c.args.rounds - c.loop-done.done ≡ 0 = omega (
      arith,
      c.loop-done-test.false,
      c.loop-done.auto.done-end,
    ) in none) c.loop-done.invariant.under_way)
