use Rattle.std.proofs.Common.{ap, map, ◌∙◌}
use Rattle.tdm_problem.specs.Value.{value_of}
use Rattle.command_run.proofs.ResultLaws.{map-ok}
use Rattle.tdm_cli.specs.declared.status.Status.TheVariants as status
use Rattle.tdm_cli.specs.Reports.{route_report}
use Rattle.tdm_cli.specs.Texts.{text_of}
use Rattle.tdm_cli.specs.Outcomes.{comes_to, is_routed}
use Rattle.tdm_cli.proofs.route.route.Goals as goal

pub returns-in_ok-texts-in-Ok : goal.returns-in_ok-texts-in-Ok
returns-in_ok-texts-in-Ok c =
    let plan = c.in-Ok.plan in
    let made = c.in-Ok.ensures.plan in
    is_routed plan.solution plan.cert made.0 made.1
    (ap (λ report. comes_to 1 status.Ok report (map text_of c.in_ok-texts-in-Ok.texts.items)) made.2
    ∙ ap (λ texts. comes_to 1 status.Ok (route_report (value_of c.args.problem.now plan.solution) made.0)
    (map text_of texts)) c.in_ok-texts-in-Ok.ensures)

pub returns-in-Err : goal.returns-in-Err
returns-in-Err c = map-ok c.obstructed.result _ _ (λ prepared each. each c.args.problem.now c.args.rounds
    c.in-Err.ensures.obstacle) c.obstructed.ensures
