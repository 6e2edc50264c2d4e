use Rattle.std.proofs.Common.{arith, []}
use Rattle.std.proofs.lemmas.Result.{err_from_is_err_and}
use Rattle.tdm_lines.specs.Written.{line_text}
use Rattle.text_writer.proofs.UnderWay.{brings_none, brings_more, stops_more}
use Rattle.contest_input.proofs.write.put_groups.Goals as goal

pub loop-g-init : goal.loop-g-init
loop-g-init g c = brings_none c.args.pending.now c.args.desk.now

pub returns-in_err-put_row : goal.returns-in_err-put_row
returns-in_err-put_row g c =
    let p = err_from_is_err_and c.from_residual.result c.from_residual.ensures.1 in
    rw (p.1, p.2) (stops_more line_text c.args.problem.now.groups c.loop-g.g [] (omega arith)
    c.loop-g.invariant (rw c.group.ensures.value c.in_err-put_row.ensures))

pub loop-g-preserved : goal.loop-g-preserved
loop-g-preserved g c = brings_more line_text c.args.problem.now.groups c.loop-g.g [] (omega arith)
    c.loop-g.invariant (rw c.group.ensures.value c.in_ok-put_row.ensures)
