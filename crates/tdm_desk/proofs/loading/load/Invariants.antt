use Rattle.std.proofs.Common.{◌≡◌, ◌≤◌, ◌-◌, vec_len}
use Rattle.tdm_desk.specs.Counts.{CountsFaults}
use Rattle.tdm_desk.proofs.LoadLaws.{Loads}
use Rattle.tdm_desk.proofs.loading.load.Given as goal

abbrev pub invariant-loop-slot : goal.invariant-loop-slot
invariant-loop-slot g l = record {
  in_range : vec_len l.bytes ≤ l.most;
  buffer_len : vec_len l.buffer ≡ vec_len l.initial.buffer;
  loads : Loads l.slot (g.D.Desk.seen l.initial.desk) (g.D.Desk.seen l.desk) (vec_len l.bytes) l.bytes.items;
  uncounted : g.D.Desk.counts l.desk ≡ g.D.Desk.counts l.initial.desk;
  counted : CountsFaults g.D.Desk.counts g.D.Desk.steady l.initial.desk l.desk;
}

abbrev pub decreases-loop-slot : goal.decreases-loop-slot
decreases-loop-slot g l = l.most - vec_len l.bytes
