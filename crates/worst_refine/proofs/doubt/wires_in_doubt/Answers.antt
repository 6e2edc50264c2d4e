use Rattle.std.proofs.Common.{◌≡◌, ◌+◌, ◌++◌, [], length, take, drop, sym, subst, ◌∙◌, arith}
use Rattle.std.specs.Prelude.{Bool, List}
use Rattle.std.proofs.lemmas.List.{take_at}
use Rattle.solution_eval.proofs.Counting.{positive_ratios}
use Rattle.worst_refine.proofs.Doubts.{IsDoubted, doubted_more}
use Rattle.worst_refine.proofs.doubt.wires_in_doubt.Goals as goal

pub doubt-requires-clause-positive : goal.doubt-requires-clause-positive
doubt-requires-clause-positive c = positive_ratios _ c.uses.result.now c.uses.ensures.value
    (c.requires.fitting.even c.loop-n.n [] (omega arith))

pub loop-n-preserved : goal.loop-n-preserved
loop-n-preserved c =
    let size : length c.doubt.new.doubtful ≡ c.loop-n.doubtful.len = c.doubt.ensures.size
    ∙ c.deref_mut.ensures.len in
    let same : take c.loop-n.doubtful.len
    (c.doubt.new.doubtful ++ drop (length c.doubt.new.doubtful) c.loop-n.doubtful.items)
    ≡ c.doubt.new.doubtful =
    take_at c.doubt.new.doubtful (drop (length c.doubt.new.doubtful) c.loop-n.doubtful.items)
    c.loop-n.doubtful.len size in
    subst (λ (marks : List Bool). IsDoubted (length c.args.spent.now) c.args.solution.now
    (c.loop-n.n + 1) marks) (sym same)
    (doubted_more (length c.args.spent.now) c.args.solution.now c.args.spent.now c.loop-n.n c.nets.result
    c.uses.result.now c.deref_mut.result.now c.doubt.new.doubtful
    (omega arith) c.requires.fitting c.requires.spent (omega arith) c.uses.ensures.value c.doubt.ensures.size
    c.doubt.ensures.more c.doubt.ensures.sure
    (subst (λ (marks : List Bool). IsDoubted (length c.args.spent.now) c.args.solution.now c.loop-n.n marks)
    (sym c.deref_mut.ensures.value) c.loop-n.invariant))
