use Rattle.std.proofs.Common.{take}
use Rattle.text_writer.specs.Writing.{numbers_then, Brings}
use Rattle.contest_input.proofs.write.put_numbers.Given as goal

abbrev pub invariant-loop-number : goal.invariant-loop-number
invariant-loop-number g l = Brings g.D.Desk.seen g.D.Desk.counts g.D.Desk.steady l.slot
    (numbers_then 32 (take l.number-index l.numbers)) l.fn.pending l.fn.desk l.pending l.desk
