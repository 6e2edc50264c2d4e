use Rattle.std.proofs.Common.{◌≡◌, map, take}
use Rattle.bound_cert.proofs.HopValues.{or_zero}
use Rattle.bound_cert.proofs.hops.distances_of.Given as goal

abbrev pub invariant-loop-f : goal.invariant-loop-f
invariant-loop-f l = l.values.items ≡ map or_zero (take l.f l.forest.distances)
