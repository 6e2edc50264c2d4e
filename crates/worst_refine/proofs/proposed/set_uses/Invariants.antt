use Rattle.std.proofs.Common.{◌≡◌, take}
use Rattle.std.specs.Prelude.{All}
use Rattle.tdm_problem.specs.Routing.{wires_of, ratios_of}
use Rattle.worst_refine.specs.Traded.{IsSmallRatio}
use Rattle.worst_refine.proofs.proposed.set_uses.Given as goal

abbrev pub invariant-loop-e : goal.invariant-loop-e
invariant-loop-e l = (wires_of l.uses.items ≡ take l.e-index l.wires)
    × All IsSmallRatio (ratios_of l.uses.items)
