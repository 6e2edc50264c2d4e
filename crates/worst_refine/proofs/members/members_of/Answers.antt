use Rattle.std.proofs.Common.{ℕ, ◌<◌, List, length, arith, subst}
use Rattle.std.specs.Prelude.{All}
use Rattle.worst_refine.proofs.members.members_of.Goals as goal

pub loop-n-preserved : goal.loop-n-preserved
loop-n-preserved c =
    c.in_ok-add_groups.ensures c.args.problem.now (omega (arith, c.requires.nets))
    (subst (λ (k : ℕ). All (λ g. g < k) c.groups_of.result.now) c.requires.groups c.groups_of.ensures.row.below)
    c.loop-n.invariant
