use Rattle.std.proofs.Common.{◌∙◌, arith}
use Rattle.net_groups.proofs.Holders.{weight_of-board}
use Rattle.net_groups.proofs.incidence.Incidence.weights_of.Goals as goal

pub returns-clause-board : goal.returns-clause-board
returns-clause-board c board is n there =
    c.loop-n.invariant.each n (omega (arith, there, is.nets, c.nets-n-end.ensures.value))
    ∙ weight_of-board board c.args.self.now c.args.weights.now n is there
