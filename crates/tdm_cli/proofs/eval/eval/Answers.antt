use Rattle.std.proofs.Common.{[], ap, ◌∙◌}
use Rattle.tdm_cli.specs.Outcomes.{comes_to, status_of_verdict}
use Rattle.tdm_cli.proofs.eval.eval.Goals as goal

pub returns : goal.returns
returns c = record {
  verdict = c.in_ok-verdict.verdict;
  right = c.in_ok-verdict.ensures.verdict;
  legal = c.in_ok-verdict.ensures.legal;
  is =
      c.said.ensures 2 ∙ ap (λ s. comes_to 2 s c.in_ok-report.report.items []) c.status.ensures
      ∙ ap (λ report. comes_to 2 (status_of_verdict c.in_ok-verdict.verdict) report [])
      c.in_ok-report.ensures;
}
