use Rattle.worst_refine.specs.Members.{AreMembersOf}
use Rattle.worst_refine.proofs.members.members_of.Given as goal

abbrev pub invariant-loop-n : goal.invariant-loop-n
invariant-loop-n l = AreMembersOf l.problem l.members.items
