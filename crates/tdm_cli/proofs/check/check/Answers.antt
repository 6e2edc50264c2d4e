use Rattle.std.proofs.Common.{[], ap, ◌∙◌}
use Rattle.tdm_cli.specs.Outcomes.{comes_to, status_of_answer}
use Rattle.tdm_cli.proofs.check.check.Goals as goal

pub returns : goal.returns
returns c = record {
  answer = c.in_ok-answer.answer;
  right = c.in_ok-answer.ensures.answer;
  is =
      c.said.ensures 2 ∙ ap (λ s. comes_to 2 s c.in_ok-report.report.items []) c.status.ensures
      ∙ ap (λ report. comes_to 2 (status_of_answer c.in_ok-answer.answer) report []) c.in_ok-report.ensures;
}
