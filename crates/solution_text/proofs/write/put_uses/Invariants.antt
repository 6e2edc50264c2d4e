use Rattle.std.proofs.Common.{take}
use Rattle.std.specs.List.{flat_map}
use Rattle.solution_text.specs.Text.{use_line}
use Rattle.text_writer.specs.Writing.{Brings}
use Rattle.solution_text.proofs.write.put_uses.Given as goal

abbrev pub invariant-loop-used : goal.invariant-loop-used
invariant-loop-used g l = Brings g.D.Desk.seen g.D.Desk.counts g.D.Desk.steady l.slot
    (flat_map use_line (take l.used-index l.uses)) l.fn.pending l.fn.desk l.pending l.desk
