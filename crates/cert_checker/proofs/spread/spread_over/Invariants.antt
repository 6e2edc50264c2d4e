use Rattle.std.proofs.Common.{◌≡◌, ◌≤◌, map, take}
use Rattle.tdm_problem.specs.Value.{largest}
use Rattle.bound_cert.specs.Certificate.{value_at}
use Rattle.bound_cert.specs.Bound.{smallest}
use Rattle.bound_cert.specs.Limits.{most_potential_value}
use Rattle.cert_checker.proofs.spread.spread_over.Given as goal

abbrev pub invariant-loop-i : goal.invariant-loop-i
invariant-loop-i l =
    (l.least ≡ smallest (map (value_at l.potential) (take l.i l.fpgas)))
    × (l.most ≡ largest (map (value_at l.potential) (take l.i l.fpgas)))
    × (l.least ≤ l.most) × (l.most ≤ most_potential_value)
