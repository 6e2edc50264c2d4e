use Rattle.std.proofs.Common.{◌≡◌, ◌*◌, ◌^◌, ◌≤◌, take}
use Rattle.std.specs.Prelude.{sum}
use Rattle.tdm_problem.specs.Routing.{ratios_of}
use Rattle.solution_eval.proofs.worth.sum_of_uses.Given as goal

abbrev pub invariant-loop-wire_use : goal.invariant-loop-wire_use
invariant-loop-wire_use l = (l.total ≡ sum (ratios_of (take l.wire_use-index l.uses)))
    × (l.total ≤ l.wire_use-index * 2 ^ 32)
