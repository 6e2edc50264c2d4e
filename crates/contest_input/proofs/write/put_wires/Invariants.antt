use Rattle.std.proofs.Common.{take}
use Rattle.std.specs.List.{flat_map}
use Rattle.contest_input.specs.Canonical.{wire_line}
use Rattle.text_writer.specs.Writing.{Brings}
use Rattle.contest_input.proofs.write.put_wires.Given as goal

abbrev pub invariant-loop-e : goal.invariant-loop-e
invariant-loop-e g l = Brings g.D.Desk.seen g.D.Desk.counts g.D.Desk.steady l.slot
    (flat_map wire_line (take l.e l.problem.wires)) l.fn.pending l.fn.desk l.pending l.desk
