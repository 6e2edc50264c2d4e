use Rattle.std.proofs.Common.{◌<◌, ℕ, List, [], length, arith, subst}
use Rattle.std.specs.Prelude.{All}
use Rattle.worst_refine.proofs.net_uses.uses_of_trees.Goals as goal

pub loop-n-preserved : goal.loop-n-preserved
loop-n-preserved c =
    c.in_ok-add_wires.ensures c.args.problem.now (omega (arith, c.requires.nets))
    (subst (λ (es : List ℕ). All (λ e. e < length c.args.problem.now.wires) es) c.wires_of.ensures.value
    (c.requires.there c.loop-n.n [] (omega arith)))
    c.loop-n.invariant
