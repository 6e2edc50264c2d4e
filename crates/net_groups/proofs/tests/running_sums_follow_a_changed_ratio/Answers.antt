use Rattle.std.proofs.Common.{arith}
use Rattle.net_groups.proofs.tests.running_sums_follow_a_changed_ratio.Goals as goal

pub sum-requires : goal.sum-requires
sum-requires g c =
    omega (
      arith,
      c.in_ok-sums.ensures.sums.count,
      c.in_ok-incidence.ensures.groups,
      c.in_ok-problem.ensures.groups,
    )
