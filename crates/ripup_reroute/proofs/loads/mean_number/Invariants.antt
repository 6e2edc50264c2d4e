use Rattle.std.proofs.Common.{◌*◌, ◌^◌, ◌≤◌}
use Rattle.ripup_reroute.proofs.loads.mean_number.Given as goal

abbrev pub invariant-loop-n : goal.invariant-loop-n
invariant-loop-n l = record { sum : l.sum ≤ l.n * 2 ^ 30; nets : l.nets ≤ l.n }
