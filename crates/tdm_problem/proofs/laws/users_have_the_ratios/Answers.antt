use Rattle.tdm_problem.proofs.Users.{ratios_on-users}
use Rattle.tdm_problem.proofs.laws.users_have_the_ratios.Goals as goal

pub returns : goal.returns
returns c = ratios_on-users
