use Rattle.std.proofs.Common.{◌≡◌, take}
use Rattle.tdm_problem.specs.Routing.{wires_of}
use Rattle.worst_refine.proofs.trading.set_wires.Given as goal

abbrev pub invariant-loop-wire_use : goal.invariant-loop-wire_use
invariant-loop-wire_use l = l.wires.items ≡ wires_of (take l.wire_use-index l.uses)
