use Rattle.std.proofs.Common.{◌≡◌, ◌++◌, length}
use Rattle.tdm_lines.specs.Lines.{lines}
use Rattle.tdm_lines.proofs.line.token_lines.Given as goal

abbrev pub invariant-loop-numbers : goal.invariant-loop-numbers
invariant-loop-numbers l = l.found.items ++ l.cursor.lines ≡ lines l.max l.bytes

abbrev pub decreases-loop-numbers : goal.decreases-loop-numbers
decreases-loop-numbers l = length l.cursor.lines
