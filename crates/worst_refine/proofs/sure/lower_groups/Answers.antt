use Rattle.worst_refine.proofs.SureSteps.{sure_none, sure_again}
use Rattle.worst_refine.proofs.sure.lower_groups.Goals as goal

pub loop-g-init : goal.loop-g-init
loop-g-init c = sure_none _ c.args.solution.now c.args.spent.now c.requires.fitting c.requires.spent

pub loop-g-preserved : goal.loop-g-preserved
loop-g-preserved c =
    sure_again c.args.spent.now c.args.solution.now c.loop-g.solution c.lower_nets.new.solution c.loop-g.spent
    c.lower_nets.new.spent c.loop-g.invariant c.lower_nets.ensures
