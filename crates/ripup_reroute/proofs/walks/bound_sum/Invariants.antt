use Rattle.std.proofs.Common.{◌≡◌, ◌≤◌, take}
use Rattle.std.specs.Prelude.{slice_index, sum_by}
use Rattle.ripup_reroute.specs.Bounds.{bound_at}
use Rattle.ripup_reroute.proofs.walks.bound_sum.Given as goal

abbrev pub invariant-loop-t : goal.invariant-loop-t
invariant-loop-t l = record {
  sum : l.sum ≡ sum_by (λ t. bound_at l.table l.scale t (slice_index l.terminals 0))
      (take l.t-index l.terminals);
  capped : l.sum ≤ l.cap;
}
