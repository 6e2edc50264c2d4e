use Rattle.std.proofs.lemmas.Result.{err_from_is_err_and}
use Rattle.text_writer.proofs.UnderWay.{whole_written, prefix_written}
use Rattle.contest_input.proofs.write.write_board.Goals as goal

pub returns-in_err-flush-clause-err : goal.returns-in_err-flush-clause-err
returns-in_err-flush-clause-err g c =
    let p = err_from_is_err_and c.from_residual-in_err-flush.result c.from_residual-in_err-flush.ensures.1 in
    rw p.1 (prefix_written (rw c.new-pending.ensures at c.in_ok-put_board.ensures)
    c.in_err-flush.ensures.adds)

pub returns-clause-ok : goal.returns-clause-ok
returns-clause-ok g c = whole_written (rw c.new-pending.ensures at c.in_ok-put_board.ensures)
    c.in_ok-flush.ensures.adds c.in_ok-flush.ensures.emptied
