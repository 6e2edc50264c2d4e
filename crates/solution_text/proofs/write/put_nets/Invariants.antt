use Rattle.std.proofs.Common.{take}
use Rattle.std.specs.List.{flat_map}
use Rattle.solution_text.specs.Text.{net_text}
use Rattle.text_writer.specs.Writing.{Brings}
use Rattle.solution_text.proofs.write.put_nets.Given as goal

abbrev pub invariant-loop-net : goal.invariant-loop-net
invariant-loop-net g l = Brings g.D.Desk.seen g.D.Desk.counts g.D.Desk.steady l.slot
    (flat_map net_text (take l.net l.solution)) l.fn.pending l.fn.desk l.pending l.desk
