use Rattle.std.proofs.Common.{length, ◌-◌, ◌≡◌, ◌≤◌, take}
use Rattle.tdm_desk.specs.Seen.{written}
use Rattle.tdm_desk.specs.Counts.{CountsFaults}
use Rattle.tdm_desk.proofs.writing.write_whole.Given as goal

abbrev pub invariant-loop-done : goal.invariant-loop-done
invariant-loop-done g l = record {
  in_range : l.done ≤ length l.piece;
  seen_is : g.D.Desk.seen l.desk ≡ written l.slot (take l.done l.piece) (g.D.Desk.seen l.initial.desk);
  uncounted : g.D.Desk.counts l.desk ≡ g.D.Desk.counts l.initial.desk;
  counted : CountsFaults g.D.Desk.counts g.D.Desk.steady l.initial.desk l.desk;
}

abbrev pub decreases-loop-done : goal.decreases-loop-done
decreases-loop-done g l = length l.piece - l.done
