use Rattle.std.proofs.Common.{◌∙◌, ℕ, subst, arith}
use Rattle.ripup_reroute.specs.Turns.{AreFallingPasses}
use Rattle.ripup_reroute.proofs.PassLaws.{falling-more, rests-made, rerouted-then}
use Rattle.ripup_reroute.proofs.passes.all_passes.Goals as goal

pub returns-then-not-branch-clause-rest : goal.returns-then-not-branch-clause-rest
returns-then-not-branch-clause-rest c _ =
    rests-made c.args.problem.now c.args.numbers.now c.args.picks.now c.loop-done.done c.args.passes
    c.args.trees.now c.loop-done.trees c.pass.new.trees (omega (arith, c.loop-done-test.true))
    c.loop-done.invariant.falling c.in_ok-pass.ensures.pass (c.in_ok-pass.ensures.kept c.if-not-branch.true)

pub returns-then-not-branch-clause-settled : goal.returns-then-not-branch-clause-settled
returns-then-not-branch-clause-settled c _ = c.in_ok-pass.ensures.settled c.if-not-branch.true

pub loop-done-preserved : goal.loop-done-preserved
loop-done-preserved c = record {
  rerouted = rerouted-then c.args.problem.now c.args.numbers.now c.args.picks.now c.args.trees.now
      c.loop-done.trees c.pass.new.trees c.loop-done.invariant.rerouted c.pass.ensures.rerouted;
  falling = falling-more c.args.problem.now c.args.numbers.now c.args.picks.now c.loop-done.done
      c.args.trees.now c.loop-done.trees c.pass.new.trees c.loop-done.invariant.falling
      c.in_ok-pass.ensures.pass
      (c.in_ok-pass.ensures.moved c.if-not-branch.false);
  loads = c.in_ok-pass.ensures.loads;
  builder = c.pass.ensures.builder ∙ c.loop-done.invariant.builder;
  table = c.in_ok-pass.ensures.table;
}

pub returns-clause-falling : goal.returns-clause-falling
returns-clause-falling c _ =
    subst (λ (k : ℕ). AreFallingPasses c.args.problem.now c.args.numbers.now c.args.picks.now k
    c.args.trees.now c.loop-done.trees) (omega (
      arith,
      c.loop-done-test.false,
      c.loop-done.auto.done-end,
    )) c.loop-done.invariant.falling
