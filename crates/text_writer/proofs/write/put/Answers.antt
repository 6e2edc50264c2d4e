use Rattle.std.proofs.lemmas.Result.{err_from_is_err_and}
use Rattle.text_writer.proofs.UnderWay.{brings_pending, brings_both, stops_first}
use Rattle.text_writer.proofs.write.put.Goals as goal
use Rattle.text_writer.proofs.write.put.Goals.{then-room-piece+in_ok-flush, else-room-piece}

pub returns-in_err-flush : goal.returns-in_err-flush
returns-in_err-flush g c =
    let p = err_from_is_err_and c.from_residual.result c.from_residual.ensures.1 in
    rw (p.1, p.2) (stops_first c.args.piece.now c.in_err-flush.ensures.adds)

pub returns : goal.returns
returns g c = elim c.if-room-piece.branch [
  | then-room-piece+in_ok-flush w ↦ rw (
    c.extend.ensures,
    w.desk-is,
    w.pending-is,
  ) (brings_both w.in_ok-flush.ensures.adds (brings_pending c.args.piece.now _ _))
  | else-room-piece w ↦ rw (
    c.extend.ensures,
    w.desk-is,
    w.pending-is,
  ) (brings_pending c.args.piece.now c.args.pending.now c.args.desk.now)
]
