use Rattle.std.proofs.Common.{◌≡◌, ℕ, ◌+◌, ◌-◌, ◌≤◌, List, ◌++◌, length, take}
use Rattle.tdm_lines.specs.SoFar.{Stands}
use Rattle.tdm_lines.proofs.reading.Reading.take.Given as goal

abbrev pub invariant-loop-at : goal.invariant-loop-at
invariant-loop-at g l = record {
  within : l.at ≤ length l.piece;
  fine : g.G.Grammar.fine l.self.grammar;
  fed : l.self.fed ≡ l.fn.self.fed + l.at;
  sizes : g.G.Grammar.sizes l.self.grammar ≡ g.G.Grammar.sizes l.fn.self.grammar;
  max : l.self.scan.max ≡ l.fn.self.scan.max;
  stands : (text : List ℕ) → l.fn.self.scan.max ≤ g.G.Grammar.largest
      → Stands g.G.Grammar.reads g.G.Grammar.holds l.fn.self.scan l.fn.self.fed l.fn.self.fault
      l.fn.self.count l.fn.self.grammar text
      → Stands g.G.Grammar.reads g.G.Grammar.holds l.self.scan l.self.fed l.self.fault l.self.count
      l.self.grammar (text ++ take l.at l.piece);
}

abbrev pub decreases-loop-at : goal.decreases-loop-at
decreases-loop-at g l = length l.piece - l.at
