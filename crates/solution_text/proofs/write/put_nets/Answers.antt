use Rattle.std.proofs.Common.{arith, []}
use Rattle.std.proofs.lemmas.Result.{err_from_is_err_and}
use Rattle.solution_text.specs.Text.{net_text}
use Rattle.text_writer.proofs.UnderWay.{brings_none, brings_more, stops_more}
use Rattle.solution_text.proofs.write.put_nets.Goals as goal

pub loop-net-init : goal.loop-net-init
loop-net-init g c = brings_none c.args.pending.now c.args.desk.now

pub returns-in_err-put_net : goal.returns-in_err-put_net
returns-in_err-put_net g c =
    let p = err_from_is_err_and c.from_residual.result c.from_residual.ensures.1 in
    rw (p.1, p.2) (stops_more net_text c.args.solution.now c.loop-net.net [] (omega arith)
    c.loop-net.invariant (rw c.uses.ensures.value c.in_err-put_net.ensures))

pub loop-net-preserved : goal.loop-net-preserved
loop-net-preserved g c = brings_more net_text c.args.solution.now c.loop-net.net [] (omega arith)
    c.loop-net.invariant (rw c.uses.ensures.value c.in_ok-put_net.ensures)
