use Rattle.cert_checker.specs.Growing.{IsLeastOf}
use Rattle.cert_checker.proofs.Distances.{IsEarly}
use Rattle.cert_checker.proofs.growth.least_distance.Given as goal

abbrev pub invariant-loop-f : goal.invariant-loop-f
invariant-loop-f l = IsLeastOf l.search (IsEarly l.root l.fpgas l.f-index) l.least
