use Rattle.bound_cert.proofs.InPlace.{IsReplacedBelow}
use Rattle.bound_cert.proofs.ScaleLaws.{IsTimes}
use Rattle.bound_cert.proofs.potential.Potential.scale.Given as goal

abbrev pub invariant-loop-value : goal.invariant-loop-value
invariant-loop-value l = IsReplacedBelow (IsTimes l.length) 0 l.value-index l.fn.self l.value-items
