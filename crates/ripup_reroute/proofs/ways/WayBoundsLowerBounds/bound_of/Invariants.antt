use Rattle.std.proofs.Common.{◌≡◌}
use Rattle.ripup_reroute.specs.Ways.{least_entry}
use Rattle.ripup_reroute.proofs.ways.WayBoundsLowerBounds.bound_of.Given as goal

abbrev pub invariant-loop-i : goal.invariant-loop-i
invariant-loop-i l = l.least ≡ least_entry l.self.table.now l.self.waiting l.fpga l.i
