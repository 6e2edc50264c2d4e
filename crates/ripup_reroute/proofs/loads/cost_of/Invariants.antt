use Rattle.std.proofs.Common.{◌≡◌, ◌*◌, ◌^◌, ◌≤◌}
use Rattle.std.specs.Prelude.{slice_index}
use Rattle.tdm_problem.specs.Sums.{sum_below}
use Rattle.ripup_reroute.proofs.loads.cost_of.Given as goal

abbrev pub invariant-loop-e : goal.invariant-loop-e
invariant-loop-e l = (l.cost ≡ sum_below l.e (λ d. slice_index l.loads d * slice_index l.loads d))
    × (l.cost ≤ l.e * 2 ^ 100)
