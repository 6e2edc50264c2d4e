use Rattle.std.proofs.Common.{map, sym, subst}
use Rattle.command_run.proofs.ResultLaws.{map-ok}
use Rattle.tdm_cli.specs.Texts.{text_of}
use Rattle.tdm_cli.specs.Outcomes.{Demonstrates}
use Rattle.tdm_cli.proofs.DemoLaws.{demo-silent, demo-shown}
use Rattle.tdm_cli.proofs.demo.demo.Goals as goal

pub returns-in-Ok : goal.returns-in-Ok
returns-in-Ok c =
    let routed = c.in_ok-routed.routed in
    let shown = demo-shown c.args.fpgas c.args.nets c.args.groups c.in_ok-problem.problem
    c.in_ok-problem.ensures.same c.in_ok-problem.ensures.joined routed.status routed.report.items
    (map text_of routed.texts.items) c.in-Ok.is c.in_ok-routed.ensures in
    map-ok c.with_size.result _ _ (λ prepared is. subst (Demonstrates c.args.fpgas c.args.nets c.args.groups)
    (sym (is 0)) shown) c.with_size.ensures

pub returns : goal.returns
returns c =
    let routed = c.in_ok-routed.routed in
    demo-silent c.args.fpgas c.args.nets c.args.groups c.in_ok-problem.problem c.in_ok-problem.ensures.same
    c.in_ok-problem.ensures.joined routed.status routed.report.items (map text_of routed.texts.items)
    c.in_ok-routed.ensures c.in_default.not-Ok
