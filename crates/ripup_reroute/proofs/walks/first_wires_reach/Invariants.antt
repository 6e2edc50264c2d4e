use Rattle.std.proofs.Common.{◌+◌, ◌*◌}
use Rattle.std.specs.Prelude.{slice_index}
use Rattle.ripup_reroute.proofs.FirstWires.{DoReach}
use Rattle.ripup_reroute.proofs.walks.first_wires_reach.Given as goal

abbrev pub invariant-loop-neighbour : goal.invariant-loop-neighbour
invariant-loop-neighbour l =
    DoReach l.graph l.table l.scale (λ e. 2 * slice_index l.lengths.loads.now e + l.lengths.own)
    l.a l.b l.cap l.neighbour-index
