use Rattle.std.proofs.Common.{ℕ, List, ap, sym, ◌∙◌, subst, arith}
use Rattle.tdm_lines.specs.SoFar.{Stands}
use Rattle.tdm_lines.proofs.KeepsLemmas.{take-range, take-range_more}
use Rattle.tdm_lines.proofs.reading.Reading.take.Goals as goal

pub loop-at-preserved-then-at-piece : goal.loop-at-preserved-then-at-piece
loop-at-preserved-then-at-piece g c =
    let next = c.end.new.self in
    let piece : List ℕ = c.args.piece.now in
    let whole = c.run-at.ensures in
    record {
      within = omega arith;
      fine = c.in_ok-end.ensures.fine;
      fed = omega (arith, c.in_ok-end.ensures.fed, c.run-at.ensures.fed, c.loop-at.invariant.fed);
      sizes = c.in_ok-end.ensures.sizes ∙ ap g.G.Grammar.sizes c.run-at.ensures.grammar
          ∙ c.loop-at.invariant.sizes;
      max = c.in_ok-end.ensures.max ∙ c.run-at.ensures.max ∙ c.loop-at.invariant.max;
      stands = λ text most stands.
          subst (λ (t : List ℕ). Stands g.G.Grammar.reads g.G.Grammar.holds next.scan next.fed next.fault
          next.count next.grammar t)
          (take-range_more text piece c.loop-at.at c.run-at.result c.run-at.ensures.from c.if-at-piece.true)
          (c.in_ok-end.ensures.stands _ (omega (arith, most, c.run-at.ensures.max, c.loop-at.invariant.max))
          (c.run-at.ensures.stands _ (c.loop-at.invariant.stands text most stands)));
    }

pub loop-at-preserved : goal.loop-at-preserved
loop-at-preserved g c =
    let next = c.run-at.new.self in
    let piece : List ℕ = c.args.piece.now in
    record {
      within = c.run-at.ensures.within;
      fine = subst g.G.Grammar.fine (sym c.run-at.ensures.grammar) c.loop-at.invariant.fine;
      fed = omega (arith, c.run-at.ensures.fed, c.loop-at.invariant.fed);
      sizes = ap g.G.Grammar.sizes c.run-at.ensures.grammar ∙ c.loop-at.invariant.sizes;
      max = c.run-at.ensures.max ∙ c.loop-at.invariant.max;
      stands = λ text most stands.
          subst (λ (t : List ℕ). Stands g.G.Grammar.reads g.G.Grammar.holds next.scan next.fed next.fault
          next.count next.grammar t)
          (take-range text piece c.loop-at.at c.run-at.result c.run-at.ensures.from)
          (c.run-at.ensures.stands _ (c.loop-at.invariant.stands text most stands));
    }
