use Rattle.std.proofs.Common.{◌-◌}
use Rattle.ripup_reroute.specs.Rerouting.{AreMinimalTrees}
use Rattle.tdm_cli.specs.Best.{IsBest}
use Rattle.tdm_cli.specs.Candidates.{AreCandidates}
use Rattle.tdm_cli.specs.Running.{AreWeights}
use Rattle.tdm_cli.proofs.RunningLaws.{IsUnderWay}
use Rattle.tdm_cli.proofs.rounds.all_rounds.Given as goal

abbrev pub invariant-loop-done : goal.invariant-loop-done
invariant-loop-done l = record {
  weights : AreWeights l.problem l.running.weights.items;
  minimal : AreMinimalTrees l.problem l.running.trees;
  best : IsBest l.problem l.running.best.solution l.running.best.value l.running.best.certified;
  under_way : IsUnderWay l.problem l.rounds l.fn.running.weights.items l.fn.running.trees
      (l.rounds - l.done) l.running.weights.items l.running.trees l.running.best.value
      l.running.best.certified.bound l.running.candidates.last;
  candidates : AreCandidates l.problem l.running.candidates;
}
