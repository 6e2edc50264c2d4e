use Rattle.std.proofs.Common.{refl}
use Rattle.tdm_problem.specs.Roots.{root_of}
use Rattle.tdm_problem.proofs.definitions.roots_round_down.Goals as goal

pub returns-clause-nothing : goal.returns-clause-nothing
unfolding root_of
returns-clause-nothing c = refl

pub returns-clause-below_square : goal.returns-clause-below_square
unfolding root_of
returns-clause-below_square c = refl

pub returns-clause-square : goal.returns-clause-square
unfolding root_of
returns-clause-square c = refl
