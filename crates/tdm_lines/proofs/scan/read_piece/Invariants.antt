use Rattle.std.proofs.Common.{length, ◌-◌}
use Rattle.tdm_lines.proofs.PieceSteps.{PieceSoFar}
use Rattle.tdm_lines.proofs.scan.read_piece.Given as goal

abbrev pub invariant-loop-place : goal.invariant-loop-place
invariant-loop-place l = PieceSoFar l.bytes l.at l.place l.max l.has_token l.fault l.numbers.items

abbrev pub decreases-loop-place : goal.decreases-loop-place
decreases-loop-place l = length l.bytes - l.place
