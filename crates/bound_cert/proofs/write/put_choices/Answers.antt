use Rattle.std.proofs.Common.{arith}
use Rattle.std.proofs.lemmas.Result.{err_from_is_err_and}
use Rattle.bound_cert.specs.CertText.{number_line}
use Rattle.text_writer.proofs.UnderWay.{brings_none, brings_more, stops_more}
use Rattle.bound_cert.proofs.write.put_choices.Goals as goal

pub loop-choice-init : goal.loop-choice-init
loop-choice-init g c = brings_none c.args.pending.now c.args.desk.now

pub returns-in_err-put_number : goal.returns-in_err-put_number
returns-in_err-put_number g c =
    let p = err_from_is_err_and c.from_residual.result c.from_residual.ensures.1 in
    rw (p.1, p.2) (stops_more number_line c.args.choices.now c.loop-choice.choice-index 0 (omega arith)
    c.loop-choice.invariant c.in_err-put_number.ensures)

pub loop-choice-preserved : goal.loop-choice-preserved
loop-choice-preserved g c = brings_more number_line c.args.choices.now c.loop-choice.choice-index 0
    (omega arith)
    c.loop-choice.invariant c.in_ok-put_number.ensures
