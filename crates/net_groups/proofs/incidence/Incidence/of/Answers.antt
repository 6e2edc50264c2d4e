use Rattle.net_groups.proofs.Holders.{IsIncidence-gathered}
use Rattle.net_groups.proofs.incidence.Incidence.of.Goals as goal

pub invariant_of-result : goal.invariant_of-result
invariant_of-result c =
    rw c.groups.ensures.value
    (IsIncidence-gathered c.args.problem.now c.in_ok-of_nets.of_nets c.groups.ensures.board
    c.in_ok-of_nets.ensures.count c.in_ok-of_nets.ensures.each).0
