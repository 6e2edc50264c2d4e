use Rattle.std.proofs.Common.{get_or, refl, arith}
use Rattle.worst_refine.proofs.Proposals.{use_push}
use Rattle.worst_refine.proofs.proposed.set_uses.Goals as goal

pub loop-e-preserved : goal.loop-e-preserved
loop-e-preserved c =
    use_push c.loop-e.uses.items c.push.new.self.items c.args.wires.now c.loop-e.e-index
    (record { wire = get_or c.args.wires.now c.loop-e.e-index 0; ratio = c.even_ratio-ratio.result })
    (omega arith) c.in_ok-push.ensures.items refl c.even_ratio-ratio.ensures c.loop-e.invariant
