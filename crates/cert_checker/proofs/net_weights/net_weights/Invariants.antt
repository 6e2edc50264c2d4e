use Rattle.std.proofs.Common.{length}
use Rattle.cert_checker.proofs.NetWeightSums.{AreWeightsUpTo}
use Rattle.cert_checker.proofs.net_weights.net_weights.Given as goal

abbrev pub invariant-loop-g : goal.invariant-loop-g
invariant-loop-g l = AreWeightsUpTo l.g l.problem.groups l.cert.weights (length l.problem.nets)
    l.weights.items
