use Rattle.std.proofs.Common.{take}
use Rattle.std.specs.List.{flat_map}
use Rattle.bound_cert.specs.CertText.{number_line}
use Rattle.text_writer.specs.Writing.{Brings}
use Rattle.bound_cert.proofs.write.put_choices.Given as goal

abbrev pub invariant-loop-choice : goal.invariant-loop-choice
invariant-loop-choice g l = Brings g.D.Desk.seen g.D.Desk.counts g.D.Desk.steady l.slot
    (flat_map number_line (take l.choice-index l.choices)) l.fn.pending l.fn.desk l.pending l.desk
