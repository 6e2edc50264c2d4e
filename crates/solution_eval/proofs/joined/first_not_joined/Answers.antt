use Rattle.std.proofs.Common.{arith, below_more}
use Rattle.std.proofs.lemmas.Bool.{both_ways}
use Rattle.solution_eval.specs.Violations.{IsJoined}
use Rattle.solution_eval.proofs.Joining.{joined_here, joined_there}
use Rattle.solution_eval.proofs.joined.first_not_joined.Goals as goal

pub returns-then-not-branch : goal.returns-then-not-branch
returns-then-not-branch c = record {
  there = omega arith;
  without = λ joined. both_ways c.in_ok-is_joined.field-0 c.if-not-branch.true
      (c.in_ok-is_joined.ensures.joined.1 (joined_there c.args.problem.now c.args.solution.now c.loop-n.n
      c.uses.result.now c.net.result.now c.uses.ensures.value c.net.ensures.value joined));
  before = c.loop-n.invariant.0;
}

pub loop-n-preserved : goal.loop-n-preserved
loop-n-preserved c =
    let here : IsJoined c.args.problem.now c.args.solution.now c.loop-n.n =
    joined_here c.args.problem.now c.args.solution.now c.loop-n.n c.uses.result.now c.net.result.now
    c.uses.ensures.value c.net.ensures.value (c.in_ok-is_joined.ensures.joined.0 c.if-not-branch.false) in (
      below_more (IsJoined c.args.problem.now c.args.solution.now) c.loop-n.n c.loop-n.invariant.0 here,
      c.in_ok-is_joined.ensures.size,
      c.in_ok-is_joined.ensures.highest,
    )

pub returns : goal.returns
returns c = λ k inside. c.loop-n.invariant.0 k (omega arith)
