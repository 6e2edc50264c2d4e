use Rattle.std.proofs.Common.{[]}
use Rattle.bound_cert.specs.Scaling.{IsScaled}
use Rattle.bound_cert.proofs.InPlace.{IsReplacedBelow}
use Rattle.bound_cert.proofs.scaling.scale_all.Given as goal

abbrev pub invariant-loop-potential : goal.invariant-loop-potential
invariant-loop-potential l = IsReplacedBelow (IsScaled l.length) [] l.potential-index l.fn.potentials
    l.potentials
