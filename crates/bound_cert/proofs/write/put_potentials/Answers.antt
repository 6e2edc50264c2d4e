use Rattle.std.proofs.Common.{arith, []}
use Rattle.std.proofs.lemmas.Result.{err_from_is_err_and}
use Rattle.tdm_lines.specs.Written.{line_text}
use Rattle.text_writer.proofs.UnderWay.{brings_none, brings_more, stops_more}
use Rattle.bound_cert.proofs.write.put_potentials.Goals as goal

pub loop-p-init : goal.loop-p-init
loop-p-init g c = brings_none c.args.pending.now c.args.desk.now

pub returns-in_err-put_line : goal.returns-in_err-put_line
returns-in_err-put_line g c =
    let p = err_from_is_err_and c.from_residual.result c.from_residual.ensures.1 in
    rw (p.1, p.2) (stops_more line_text c.args.cert.now.potentials c.loop-p.p [] (omega arith)
    c.loop-p.invariant (rw c.potential.ensures.value c.in_err-put_line.ensures))

pub loop-p-preserved : goal.loop-p-preserved
loop-p-preserved g c = brings_more line_text c.args.cert.now.potentials c.loop-p.p [] (omega arith)
    c.loop-p.invariant (rw c.potential.ensures.value c.in_ok-put_line.ensures)
