use Rattle.std.proofs.Common.{length, ap, arith}
use Rattle.worst_refine.proofs.Lowering.{few_uses}
use Rattle.worst_refine.proofs.SureSteps.{sure_none, sure_again}
use Rattle.worst_refine.proofs.sure.lower_net.Goals as goal

pub overflow_cast-places : goal.overflow_cast-places
overflow_cast-places c =
    let few = few_uses (length c.args.spent.now) c.args.solution.now c.args.n c.requires.fitting
    c.requires.there in
    omega (arith, ap length c.uses.ensures.value, few, c.requires.few)

pub loop-place-init : goal.loop-place-init
loop-place-init c = sure_none _ c.args.solution.now c.args.spent.now c.requires.fitting c.requires.spent

pub loop-place-preserved : goal.loop-place-preserved
loop-place-preserved c =
    sure_again c.args.spent.now c.args.solution.now c.loop-place.solution c.lower_use.new.solution
    c.loop-place.spent c.lower_use.new.spent c.loop-place.invariant c.lower_use.ensures
