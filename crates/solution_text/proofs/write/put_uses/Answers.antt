use Rattle.std.proofs.Common.{arith}
use Rattle.std.proofs.lemmas.Result.{err_from_is_err_and}
use Rattle.solution_text.specs.Text.{use_line}
use Rattle.text_writer.proofs.UnderWay.{brings_none, brings_more, stops_more}
use Rattle.solution_text.proofs.write.put_uses.Goals as goal

pub loop-used-init : goal.loop-used-init
loop-used-init g c = brings_none c.args.pending.now c.args.desk.now

pub returns-in_err-put_use : goal.returns-in_err-put_use
returns-in_err-put_use g c =
    let p = err_from_is_err_and c.from_residual.result c.from_residual.ensures.1 in
    rw (p.1, p.2) (stops_more use_line c.args.uses.now c.loop-used.used-index
    (record { wire = 0; ratio = 0 }) (omega arith)
    c.loop-used.invariant c.in_err-put_use.ensures)

pub loop-used-preserved : goal.loop-used-preserved
loop-used-preserved g c = brings_more use_line c.args.uses.now c.loop-used.used-index
    (record { wire = 0; ratio = 0 }) (omega arith)
    c.loop-used.invariant c.in_ok-put_use.ensures
