use Rattle.std.proofs.Common.{length, ◌-◌, ◌≤◌, drop}
use Rattle.tdm_lines.specs.Scan.{SameAhead}
use Rattle.tdm_lines.proofs.scan.skip_blanks.Given as goal

abbrev pub invariant-loop-place : goal.invariant-loop-place
invariant-loop-place l = (l.at ≤ l.place) × (l.place ≤ length l.bytes)
    × SameAhead (drop l.at l.bytes) (drop l.place l.bytes)

abbrev pub decreases-loop-place : goal.decreases-loop-place
decreases-loop-place l = length l.bytes - l.place
