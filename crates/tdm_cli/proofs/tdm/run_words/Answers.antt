use Rattle.tdm_cli.proofs.RequestLaws.{asks-found, room-for, ran-by}
use Rattle.tdm_cli.specs.Request.{request_of}
use Rattle.tdm_cli.proofs.tdm.run_words.Goals as goal

pub output_names-outputs-requires : goal.output_names-outputs-requires
output_names-outputs-requires g c = asks-found _ _ c.parse-command.ensures.found c.parse-command.ensures.none

pub decide-decision-requires : goal.decide-decision-requires
decide-decision-requires g c = (_, asks-found _ _ c.parse-command.ensures.found c.parse-command.ensures.none)

pub conclude-requires : goal.conclude-requires
conclude-requires g c =
    room-for (request_of c.parse-command.result) c.output_names-outputs.ensures c.decide-decision.result
    c.decide-decision.ensures

pub returns-clause-ran : goal.returns-clause-ran
returns-clause-ran g c =
    ran-by (request_of c.parse-command.result) c.output_names-outputs.ensures c.decide-decision.result
    c.decide-decision.ensures _ (asks-found _ _ c.parse-command.ensures.found c.parse-command.ensures.none)
    _ _ c.conclude.ensures
