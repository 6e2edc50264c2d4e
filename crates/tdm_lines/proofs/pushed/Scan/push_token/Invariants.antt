use Rattle.std.proofs.Common.{length, ◌-◌}
use Rattle.tdm_lines.proofs.PendingLemmas.{RunSoFar}
use Rattle.tdm_lines.proofs.pushed.Scan.push_token.Given as goal

abbrev pub invariant-loop-end : goal.invariant-loop-end
invariant-loop-end l = RunSoFar l.bytes l.at l.end l.fn.self.max l.fn.self.pending l.reading

abbrev pub decreases-loop-end : goal.decreases-loop-end
decreases-loop-end l = length l.bytes - l.end
