use Rattle.std.proofs.Common.{[], ap, ◌∙◌}
use Rattle.tdm_cli.specs.declared.status.Status.TheVariants as status
use Rattle.tdm_cli.specs.Reports.{unconnectable_report}
use Rattle.tdm_cli.specs.Outcomes.{comes_to, is_unconnectable, is_over_limit}
use Rattle.tdm_cli.proofs.route.obstructed.Goals as goal

pub returns-in_ok-report-in-Unconnectable : goal.returns-in_ok-report-in-Unconnectable
returns-in_ok-report-in-Unconnectable c = λ board rounds shows.
    let are = rw c.in-Unconnectable.is at shows in
    is_unconnectable c.in-Unconnectable.nets.items are.0 are.1
    (c.said.ensures 1 ∙ ap (λ report. comes_to 1 status.Unconnectable report [])
    (c.in_ok-report-in-Unconnectable.ensures ∙ ap unconnectable_report c.as_slice.ensures.value))

pub returns-in_ok-report-in-UseLimit : goal.returns-in_ok-report-in-UseLimit
returns-in_ok-report-in-UseLimit c = λ board rounds shows.
    is_over_limit (rw c.in-UseLimit.is at shows)
    (c.said-in-UseLimit.ensures 1
    ∙ ap (λ report. comes_to 1 status.UseLimit report []) c.in_ok-report-in-UseLimit.ensures.items)
