use Rattle.std.proofs.Common.{take}
use Rattle.text_writer.specs.Writing.{numbers_then, Brings}
use Rattle.text_writer.proofs.write.put_numbers.Given as goal

abbrev pub invariant-loop-number : goal.invariant-loop-number
invariant-loop-number g l = Brings g.D.Desk.seen g.D.Desk.counts g.D.Desk.steady l.slot
    (numbers_then l.end (take l.number-index l.numbers)) l.fn.pending l.fn.desk l.pending l.desk
