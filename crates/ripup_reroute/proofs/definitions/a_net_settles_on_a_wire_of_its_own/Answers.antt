use Rattle.ripup_reroute.proofs.Crossing.{crowded-long, spread-settled}
use Rattle.ripup_reroute.proofs.definitions.a_net_settles_on_a_wire_of_its_own.Goals as goal

pub returns-clause-alone : goal.returns-clause-alone
returns-clause-alone c = spread-settled

pub returns-clause-shared : goal.returns-clause-shared
returns-clause-shared c settled = crowded-long settled.short
