use Rattle.std.proofs.Common.{◌≡◌, ◌+◌, ◌-◌, ◌*◌, ◌^◌, ◌<◌, take}
use Rattle.std.specs.Prelude.{slice_index, sum_by}
use Rattle.ripup_reroute.proofs.marginals.capped_length.Given as goal

abbrev pub invariant-loop-e : goal.invariant-loop-e
invariant-loop-e l =
    (l.total ≡ sum_by (λ d. 2 * slice_index l.marginals.loads.now d + l.marginals.own)
    (take l.e-index l.wires)) × (l.total < 2 ^ 64 - 2 ^ 51)
