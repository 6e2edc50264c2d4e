use Rattle.std.proofs.Common.{arith}
use Rattle.std.proofs.lemmas.Result.{err_from_is_err_and}
use Rattle.std.proofs.lemmas.Option.{get_or_from_slice_get}
use Rattle.contest_input.specs.Canonical.{wire_line}
use Rattle.text_writer.proofs.UnderWay.{brings_none, brings_more, stops_more}
use Rattle.contest_input.proofs.write.put_wires.Goals as goal

pub loop-e-init : goal.loop-e-init
loop-e-init g c = brings_none c.args.pending.now c.args.desk.now

pub returns-in_err-put_wire : goal.returns-in_err-put_wire
returns-in_err-put_wire g c =
    let p = err_from_is_err_and c.from_residual.result c.from_residual.ensures.1 in
    rw (p.1, p.2) (stops_more wire_line c.args.problem.now.wires c.loop-e.e c.wire.result (omega arith)
    c.loop-e.invariant (rw (get_or_from_slice_get c.args.problem.now.wires
    c.loop-e.e c.wire.result c.wire.result
    c.wire.ensures.there) c.in_err-put_wire.ensures))

pub loop-e-preserved : goal.loop-e-preserved
loop-e-preserved g c = brings_more wire_line c.args.problem.now.wires c.loop-e.e c.wire.result (omega arith)
    c.loop-e.invariant (rw (get_or_from_slice_get c.args.problem.now.wires
    c.loop-e.e c.wire.result c.wire.result
    c.wire.ensures.there) c.in_ok-put_wire.ensures)
