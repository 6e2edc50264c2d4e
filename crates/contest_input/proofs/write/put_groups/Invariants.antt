use Rattle.std.proofs.Common.{take}
use Rattle.std.specs.List.{flat_map}
use Rattle.tdm_lines.specs.Written.{line_text}
use Rattle.text_writer.specs.Writing.{Brings}
use Rattle.contest_input.proofs.write.put_groups.Given as goal

abbrev pub invariant-loop-g : goal.invariant-loop-g
invariant-loop-g g l = Brings g.D.Desk.seen g.D.Desk.counts g.D.Desk.steady l.slot
    (flat_map line_text (take l.g l.problem.groups)) l.fn.pending l.fn.desk l.pending l.desk
