use Rattle.std.proofs.Common.{◌≡◌, ◌+◌, ◌<◌, [], ◌∷◌, ◌++◌, length, get_or, take, ap, sym, ◌∙◌, arith}
use Rattle.even_legalise.specs.Uniform.{uniform_ratio, uniform_routing}
use Rattle.even_legalise.proofs.UniformSteps.{row_counts_small, rising_uses, routing_more}
use Rattle.even_legalise.proofs.solution.with_uniform_ratios.Goals as goal

pub set_uses-requires-clause-few : goal.set_uses-requires-clause-few
set_uses-requires-clause-few c =
    let inside : c.loop-n.n < length c.args.trees.now = omega arith in
    row_counts_small c.args.problem.now c.args.trees.now c.loop-n.n c.args.counts.now c.wires_of.result.now
    c.requires.trees_for c.nets-n-end.ensures.rising c.requires.counted inside c.wires_of.ensures.value

pub push_net-requires-clause-rising : goal.push_net-requires-clause-rising
push_net-requires-clause-rising c =
    rising_uses (λ e. uniform_ratio (get_or c.args.counts.now e 0) 1) c.wires_of.result.now c.deref.result.now
    (c.deref.ensures.value ∙ c.in_ok-set_uses.ensures) c.wires_of.ensures.rising

pub loop-n-preserved : goal.loop-n-preserved
loop-n-preserved c =
    let inside : c.loop-n.n < length c.args.trees.now = omega arith in
    let more : take (c.loop-n.n + 1) (uniform_routing c.args.problem.now c.args.trees.now)
    ≡ take c.loop-n.n (uniform_routing c.args.problem.now c.args.trees.now) ++ c.deref.result.now ∷ [] =
    routing_more c.args.problem.now c.args.trees.now c.loop-n.n c.args.counts.now c.wires_of.result.now
    c.deref.result.now c.requires.trees_for c.requires.counted inside c.wires_of.ensures.value
    (c.deref.ensures.value ∙ c.in_ok-set_uses.ensures) in
    c.in_ok-push_net.ensures.ok ∙ (ap (λ s. s ++ c.deref.result.now ∷ []) c.loop-n.invariant ∙ sym more)
