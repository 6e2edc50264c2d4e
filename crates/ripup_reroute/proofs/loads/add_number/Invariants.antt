use Rattle.std.proofs.Common.{take}
use Rattle.ripup_reroute.specs.Working.{IsAdded}
use Rattle.ripup_reroute.proofs.loads.add_number.Given as goal

abbrev pub invariant-loop-e : goal.invariant-loop-e
invariant-loop-e l = IsAdded l.number (take l.e-index l.wires) l.fn.loads.items l.loads.items
