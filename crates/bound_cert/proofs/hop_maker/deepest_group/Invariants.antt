use Rattle.bound_cert.proofs.Deepest.{IsDeepestBelow}
use Rattle.bound_cert.proofs.hop_maker.deepest_group.Given as goal

abbrev pub invariant-loop-g : goal.invariant-loop-g
invariant-loop-g l = IsDeepestBelow l.depths l.problem.groups l.g l.deepest l.most
