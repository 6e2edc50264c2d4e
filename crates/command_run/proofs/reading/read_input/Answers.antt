use Rattle.command_run.specs.Inputs.{text}
use Rattle.command_run.proofs.ResultLaws.{map-ok}
use Rattle.command_run.proofs.EarlyLaws.{refused-so, tells}
use Rattle.command_run.proofs.reading.read_input.Goals as goal

pub returns-in-Err-Refused-clause-err : goal.returns-in-Err-Refused-clause-err
returns-in-Err-Refused-clause-err g c =
    let filled = c.in-Ok-true.ensures.ok c.in-Ok-true.field-0-test in
    let kind = g.R.TextReader.kind c.args.reader in
    tells g.T.OutputText.text g.R.Status.RunStatus.faults _ _ _ _ (text filled.bytes) kind.status
    (kind.report c.in-Err-Refused.refusal)
    (filled.held, λ near. filled.through)
    (refused-so g.R.TextReader.is_at _ _ _ _ _ _ _ c.fill.ensures.kind c.fill.ensures.limit c.cut.ensures.same
    _ _ filled g.R.Status.RunStatus.faults c.in-Err-Refused.refusal
    (rw c.in-Err-Refused.field-0-is at c.in-Err-Refused.ensures.fault))
    c.fill.ensures.only c.in-Ok-true.ensures.own
    c.status.result (c.status.ensures c.args.reader) c.report-report.result
    (map-ok c.report-report.result _ _ (λ words is. is c.args.reader) c.report-report.ensures)
    c.early-in-Err-Refused.result c.early-in-Err-Refused.ensures.said c.early-in-Err-Refused.ensures.wanting
