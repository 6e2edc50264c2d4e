use Rattle.ripup_reroute.proofs.Crossing.{crowded-long, turn-spreads}
use Rattle.ripup_reroute.proofs.definitions.a_turn_leads_to_a_free_wire.Goals as goal

pub returns-clause-moves : goal.returns-clause-moves
returns-clause-moves c = turn-spreads

pub returns-clause-stays : goal.returns-clause-stays
returns-clause-stays c turn = crowded-long turn.short

pub returns-clause-back : goal.returns-clause-back
returns-clause-back c turn = crowded-long turn.short
