use Rattle.std.proofs.Common.{length, ◌-◌}
use Rattle.tdm_lines.proofs.ScanSteps.{TokenSoFar}
use Rattle.tdm_lines.proofs.scan.read_token.Given as goal

abbrev pub invariant-loop-end : goal.invariant-loop-end
invariant-loop-end l = TokenSoFar l.bytes l.at l.end l.max l.reading

abbrev pub decreases-loop-end : goal.decreases-loop-end
decreases-loop-end l = length l.bytes - l.end
