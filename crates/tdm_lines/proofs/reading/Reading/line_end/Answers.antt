use Rattle.std.proofs.Common.{arith}
use Rattle.tdm_lines.proofs.KeepsLemmas.{keeps-line}
use Rattle.tdm_lines.proofs.reading.Reading.line_end.Goals as goal

pub returns-clause-keeps : goal.returns-clause-keeps
returns-clause-keeps g c = λ max done toks most keeps.
    let now = c.args.self.now in
    keeps-line g.G.Grammar.largest max c.args.line now.fault now.count now.grammar c.line.new.self done toks
    (omega arith) c.in_ok-line.ensures.reads most c.in_ok-line.ensures.holds keeps
