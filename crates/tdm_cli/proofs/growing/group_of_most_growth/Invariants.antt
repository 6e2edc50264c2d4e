use Rattle.std.specs.Prelude.{◌<◌, length, IfSome}
use Rattle.tdm_cli.proofs.growing.group_of_most_growth.Given as goal

abbrev pub invariant-loop-g : goal.invariant-loop-g
invariant-loop-g l = IfSome l.found (λ g. g < length l.problem.groups)
