use Rattle.std.proofs.Common.{arith, []}
use Rattle.std.proofs.lemmas.Result.{err_from_is_err_and}
use Rattle.tdm_lines.specs.Written.{line_text}
use Rattle.text_writer.proofs.UnderWay.{brings_none, brings_more, stops_more}
use Rattle.contest_input.proofs.write.put_nets.Goals as goal

pub loop-n-init : goal.loop-n-init
loop-n-init g c = brings_none c.args.pending.now c.args.desk.now

pub returns-in_err-put_row : goal.returns-in_err-put_row
returns-in_err-put_row g c =
    let p = err_from_is_err_and c.from_residual.result c.from_residual.ensures.1 in
    rw (p.1, p.2) (stops_more line_text c.args.problem.now.nets c.loop-n.n [] (omega arith)
    c.loop-n.invariant (rw c.net.ensures.value c.in_err-put_row.ensures))

pub loop-n-preserved : goal.loop-n-preserved
loop-n-preserved g c = brings_more line_text c.args.problem.now.nets c.loop-n.n [] (omega arith)
    c.loop-n.invariant (rw c.net.ensures.value c.in_ok-put_row.ensures)
