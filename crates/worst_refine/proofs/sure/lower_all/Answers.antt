use Rattle.worst_refine.proofs.SureSteps.{sure_none, sure_again}
use Rattle.worst_refine.proofs.sure.lower_all.Goals as goal

pub loop-n-init : goal.loop-n-init
loop-n-init c = sure_none _ c.args.solution.now c.args.spent.now c.requires.fitting c.requires.spent

pub loop-n-preserved : goal.loop-n-preserved
loop-n-preserved c =
    sure_again c.args.spent.now c.args.solution.now c.loop-n.solution c.lower_net.new.solution c.loop-n.spent
    c.lower_net.new.spent c.loop-n.invariant c.lower_net.ensures
