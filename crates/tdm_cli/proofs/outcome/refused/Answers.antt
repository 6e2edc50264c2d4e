use Rattle.std.proofs.Common.{[], ap, ◌∙◌}
use Rattle.tdm_cli.specs.declared.status.Status.TheVariants as status
use Rattle.tdm_cli.specs.Outcomes.{comes_to}
use Rattle.tdm_cli.proofs.outcome.refused.Goals as goal

pub returns : goal.returns
returns c = c.said.ensures 0 ∙ ap (λ report. comes_to 0 status.Usage report []) c.in_ok-report.ensures.items
