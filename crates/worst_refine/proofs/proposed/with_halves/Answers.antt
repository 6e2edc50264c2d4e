use Rattle.std.proofs.Common.{ap, subst, sym, ◌∙◌, arith}
use Rattle.std.specs.Prelude.{All}
use Rattle.tdm_problem.specs.Routing.{wires_of, ratios_of}
use Rattle.worst_refine.specs.Traded.{IsSmallRatio}
use Rattle.worst_refine.proofs.Proposals.{net_push}
use Rattle.worst_refine.proofs.proposed.with_halves.Goals as goal

pub loop-n-preserved : goal.loop-n-preserved
loop-n-preserved c =
    let row = c.in_ok-set_uses.ensures in
    net_push c.loop-n.solution c.push_net.new.self c.args.trees.now c.loop-n.n c.deref.result.now
    (omega arith) c.in_ok-push_net.ensures.ok (ap wires_of c.deref.ensures.value
    ∙ (row.wires ∙ sym c.wires_of-wires.ensures.value))
    (subst (λ us. All IsSmallRatio (ratios_of us)) (sym c.deref.ensures.value) row.small) c.loop-n.invariant
