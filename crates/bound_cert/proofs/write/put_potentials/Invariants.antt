use Rattle.std.proofs.Common.{take}
use Rattle.std.specs.List.{flat_map}
use Rattle.tdm_lines.specs.Written.{line_text}
use Rattle.text_writer.specs.Writing.{Brings}
use Rattle.bound_cert.proofs.write.put_potentials.Given as goal

abbrev pub invariant-loop-p : goal.invariant-loop-p
invariant-loop-p g l = Brings g.D.Desk.seen g.D.Desk.counts g.D.Desk.steady l.slot
    (flat_map line_text (take l.p l.cert.potentials)) l.fn.pending l.fn.desk l.pending l.desk
