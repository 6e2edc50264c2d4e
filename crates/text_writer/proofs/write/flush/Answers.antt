use Rattle.text_writer.proofs.UnderWay.{adds_written}
use Rattle.text_writer.proofs.write.flush.Goals as goal

pub returns-clause-adds : goal.returns-clause-adds
returns-clause-adds g c = adds_written g.D.Desk.seen c.args.slot
    c.args.pending.now c.write_whole-written.result
    (rw c.as_slice.ensures at c.write_whole-written.ensures.ok)
    (rw c.as_slice.ensures at c.write_whole-written.ensures.err)
    c.write_whole-written.ensures.failed c.write_whole-written.ensures.own
    c.write_whole-written.ensures.counted c.clear.ensures
