use Rattle.std.proofs.Common.{[], ◌∷◌}
use Rattle.tdm_cli.proofs.WordLaws.{if-none}
use Rattle.tdm_cli.proofs.command.parse_rounds.Goals as goal

pub returns-in-Some-clause-none : goal.returns-in-Some-clause-none
returns-in-Some-clause-none c = if-none c.parse_route.result _ _ (λ all. all (c.args.rounds.now ∷ []))
    c.parse_route.ensures.none
