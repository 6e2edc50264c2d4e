use Rattle.std.proofs.Common.{refl}
use Rattle.tdm_problem.specs.Roots.{root_of}
use Rattle.bound_cert.proofs.definitions.bounds_are_raised_to_even_numbers.Goals as goal

pub returns-clause-share : goal.returns-clause-share
unfolding root_of
returns-clause-share c = refl

pub returns-clause-root_of_two : goal.returns-clause-root_of_two
unfolding root_of
returns-clause-root_of_two c = refl
