use Rattle.std.proofs.Common.{take}
use Rattle.ripup_reroute.specs.Working.{IsAdded}
use Rattle.ripup_reroute.proofs.loads.take_number.Given as goal

abbrev pub invariant-loop-e : goal.invariant-loop-e
invariant-loop-e l = IsAdded l.number (take l.e-index l.wires) l.loads.items l.fn.loads.items
