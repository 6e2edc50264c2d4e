use Rattle.std.proofs.Common.{◌≡◌, ◌*◌, ◌≤◌, take}
use Rattle.tdm_problem.specs.Limits.{most_fpgas}
use Rattle.bound_cert.specs.Depths.{group_depth}
use Rattle.bound_cert.proofs.hop_maker.depth_of_group.Given as goal

abbrev pub invariant-loop-n : goal.invariant-loop-n
invariant-loop-n l = (l.depth ≡ group_depth l.depths (take l.n-index l.group))
    × (l.depth ≤ l.n-index * most_fpgas)
