use Rattle.std.proofs.Common.{vec_len, ◌-◌}
use Rattle.tdm_problem.proofs.firsts.make_room.Given as goal

abbrev pub decreases-loop-places : goal.decreases-loop-places
decreases-loop-places l = l.limit - vec_len l.places
