use Rattle.std.proofs.Common.{length, ◌-◌, ◌≡◌, ◌+◌, ◌<◌, ◌^◌, drop}
use Rattle.tdm_lines.specs.Lines.{lines_from, pieces}
use Rattle.tdm_lines.proofs.cursor.LineCursor.next_line.Given as goal

abbrev pub invariant-loop-self : goal.invariant-loop-self
invariant-loop-self l = record {
  max : l.self-inside.max ≡ l.fn.self.max;
  lines : lines_from l.self-inside.max l.self-inside.line
      (pieces (drop l.self-inside.at l.self-inside.bytes.now)) ≡ l.fn.self.lines;
  room : l.self-inside.line + length l.self-inside.bytes.now < 2 ^ 32 + l.self-inside.at;
}

abbrev pub decreases-loop-self : goal.decreases-loop-self
decreases-loop-self l = length l.self-inside.bytes.now - l.self-inside.at
