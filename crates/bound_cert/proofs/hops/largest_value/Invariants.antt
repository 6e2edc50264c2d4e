use Rattle.std.proofs.Common.{◌≡◌, map, take}
use Rattle.tdm_problem.specs.Value.{largest}
use Rattle.bound_cert.specs.Certificate.{value_at}
use Rattle.bound_cert.proofs.hops.largest_value.Given as goal

abbrev pub invariant-loop-f : goal.invariant-loop-f
invariant-loop-f l = l.most ≡ largest (map (value_at l.values) (take l.f-index l.fpgas))
