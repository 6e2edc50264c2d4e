use Rattle.std.proofs.Common.{◌≡◌, ◌<◌, ◌++◌, length, take, drop, ◌+◌, [], sym, subst, ◌∙◌, arith}
use Rattle.std.proofs.lemmas.List.{take_at}
use Rattle.solution_eval.proofs.Counting.{positive_ratios}
use Rattle.worst_refine.specs.Spent.{IsSpent}
use Rattle.worst_refine.proofs.SpentSums.{spent_more, spent-le}
use Rattle.worst_refine.proofs.spending.spent_on_wires.Goals as goal

pub spend-requires-clause-positive : goal.spend-requires-clause-positive
spend-requires-clause-positive c = positive_ratios _ c.uses.result.now c.uses.ensures.value
    (c.requires.even c.loop-n.n [] (omega arith))

pub spend-requires-clause-within : goal.spend-requires-clause-within
spend-requires-clause-within c =
    spent-le (take c.loop-n.n c.args.solution.now) c.args.wires c.deref_mut.result.now
    (subst (λ spent. IsSpent (take c.loop-n.n c.args.solution.now) c.args.wires spent)
    (sym c.deref_mut.ensures.value) c.loop-n.invariant)

pub loop-n-preserved : goal.loop-n-preserved
loop-n-preserved c =
    let inside : c.loop-n.n < length c.args.solution.now = omega arith in
    let size : length c.spend.new.spent ≡ c.loop-n.spent.len = c.spend.auto.spent ∙ c.deref_mut.ensures.len in
    let same : take c.loop-n.spent.len
    (c.spend.new.spent ++ drop (length c.spend.new.spent) c.loop-n.spent.items) ≡ c.spend.new.spent =
    take_at c.spend.new.spent (drop (length c.spend.new.spent) c.loop-n.spent.items) c.loop-n.spent.len
    size in
    subst (λ spent. IsSpent (take (c.loop-n.n + 1) c.args.solution.now) c.args.wires spent) (sym same)
    (spent_more c.args.solution.now c.loop-n.n c.args.wires c.uses.result.now c.deref_mut.result.now
    c.spend.new.spent inside c.uses.ensures.value c.spend.auto.spent c.spend.ensures
    (subst (λ spent. IsSpent (take c.loop-n.n c.args.solution.now) c.args.wires spent)
    (sym c.deref_mut.ensures.value) c.loop-n.invariant))
