use Rattle.std.proofs.Common.{get_or, arith}
use Rattle.worst_refine.proofs.MemberLists.{member_push}
use Rattle.worst_refine.proofs.members.add_groups.Goals as goal

pub loop-group-preserved : goal.loop-group-preserved
loop-group-preserved c = λ board net groups before.
    member_push board c.loop-group.members.items c.push.new.self.items
    (record { net = c.args.net; group = get_or c.args.groups.now c.loop-group.group-index 0 })
    net (groups c.loop-group.group-index 0 (omega arith)) c.in_ok-push.ensures.items
    (c.loop-group.invariant board net groups before)
