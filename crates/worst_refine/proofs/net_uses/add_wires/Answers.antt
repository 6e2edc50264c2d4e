use Rattle.std.proofs.Common.{get_or, arith}
use Rattle.worst_refine.proofs.MemberLists.{use_push}
use Rattle.worst_refine.proofs.net_uses.add_wires.Goals as goal

pub loop-wire-preserved : goal.loop-wire-preserved
loop-wire-preserved c = λ board net wires before.
    use_push board c.loop-wire.uses.items c.push.new.self.items
    (record { net = c.args.net; wire = get_or c.args.wires.now c.loop-wire.wire-index 0 })
    net (wires c.loop-wire.wire-index 0 (omega arith)) c.in_ok-push.ensures.items
    (c.loop-wire.invariant board net wires before)
