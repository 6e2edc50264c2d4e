use Rattle.ripup_reroute.specs.Rerouting.{AreMinimalTrees}
use Rattle.search_bench.proofs.rerouting.reroute_often.Given as goal

abbrev pub invariant-loop-done : goal.invariant-loop-done
invariant-loop-done l = AreMinimalTrees l.problem l.trees
