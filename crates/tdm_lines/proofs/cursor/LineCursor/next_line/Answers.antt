use Rattle.std.proofs.Common.{ℕ, List, drop, arith, sym, ◌∙◌}
use Rattle.tdm_lines.proofs.LineSteps.{first_line-read, lines_from-skip, read-within}
use Rattle.tdm_lines.proofs.cursor.LineCursor.next_line.Goals as goal

pub returns-then-piece-clause-found : goal.returns-then-piece-clause-found
returns-then-piece-clause-found c =
    let cursor = c.loop-self.self-inside in
    let text : List ℕ = drop cursor.at cursor.bytes.now in
    let rest : List ℕ = drop c.in-Ok.piece.next cursor.bytes.now in
    sym c.loop-self.invariant.lines
    ∙ first_line-read cursor.max cursor.line text rest _ _ c.in-Ok.ensures.next (sym c.if-piece.true
    ∙ c.in-Ok.ensures.token) c.in-Ok.ensures.read

pub returns-then-piece-clause-within : goal.returns-then-piece-clause-within
returns-then-piece-clause-within c = read-within _ _ _ _ _ c.in-Ok.ensures.read c.loop-self.invariant.max

pub loop-self-preserved : goal.loop-self-preserved
loop-self-preserved c =
    let cursor = c.loop-self.self-inside in
    let text : List ℕ = drop cursor.at cursor.bytes.now in
    let rest : List ℕ = drop c.in-Ok.piece.next cursor.bytes.now in
    record {
      max = c.loop-self.invariant.max;
      lines = lines_from-skip cursor.max cursor.line text rest c.in-Ok.ensures.next (sym c.if-piece.false
          ∙ c.in-Ok.ensures.token) ∙ c.loop-self.invariant.lines;
      room = omega (arith, c.in-Ok.ensures.from, c.loop-self.invariant.room);
    }
