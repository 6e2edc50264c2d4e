use Rattle.std.proofs.Common.{◌≡◌, ◌≤◌, ◌-◌, vec_len, length}
use Rattle.tdm_desk.specs.Files.{Bytes}
use Rattle.tdm_desk.specs.Counts.{CountsFaults}
use Rattle.tdm_desk.proofs.LoadLaws.{Loads}
use Rattle.command_run.proofs.reading.feed_input.Given as goal

abbrev pub invariant-loop-done : goal.invariant-loop-done
invariant-loop-done g l = record {
  in_range : l.done ≤ l.most;
  buffer_len : vec_len l.buffer ≡ vec_len l.initial.buffer;
  count : g.R.TextReader.fed l.reader ≡ l.done;
  text : Bytes;
  stands : g.R.TextReader.is_at l.reader text;
  many : length text ≡ l.done;
  loads : Loads l.slot (g.D.Desk.seen l.initial.desk) (g.D.Desk.seen l.desk) l.done text;
  kind : g.R.TextReader.kind l.reader ≡ g.R.TextReader.kind l.initial.reader;
  limit : g.R.TextReader.limit l.reader ≡ g.R.TextReader.limit l.initial.reader;
  uncounted : g.D.Desk.counts l.desk ≡ g.D.Desk.counts l.initial.desk;
  counted : CountsFaults g.D.Desk.counts g.D.Desk.steady l.initial.desk l.desk;
}

abbrev pub decreases-loop-done : goal.decreases-loop-done
decreases-loop-done g l = l.most - l.done
