use Rattle.worst_refine.specs.NetUses.{AreUsesOn}
use Rattle.worst_refine.proofs.net_uses.uses_of_trees.Given as goal

abbrev pub invariant-loop-n : goal.invariant-loop-n
invariant-loop-n l = AreUsesOn l.problem l.uses.items
