use Rattle.std.proofs.Common.{arith}
use Rattle.std.proofs.lemmas.List.{get_or_default}
use Rattle.std.proofs.lemmas.List.Kept.{AllPairs-from_increasing}
use Rattle.net_groups.proofs.running.sum_anew.Goals as goal

pub add_to-requires-clause-distinct : goal.add_to-requires-clause-distinct
add_to-requires-clause-distinct c i j d before there same =
    omega (
      arith,
      same,
      AllPairs-from_increasing c.groups_of.result.now c.groups_of.ensures.row.rising i j d
          before there,
    )

pub add_to-requires-clause-room : goal.add_to-requires-clause-room
add_to-requires-clause-room c k d there =
    omega (
      arith,
      get_or_default c.loop-n.sums k d 0 there,
      c.loop-n.invariant.small k (omega (arith, there, c.loop-n.invariant.count)),
      c.sum_of_uses.ensures.small,
      c.nets-n-end.ensures.limits.net_limit,
      c.nets-n-end.ensures.value,
    )
