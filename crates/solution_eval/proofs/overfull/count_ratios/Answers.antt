use Rattle.std.proofs.Common.{◌≡◌, ℕ, [], ◌<◌, ◌++◌, length, take, drop, ◌+◌, sym, subst, ◌∙◌, arith}
use Rattle.std.proofs.lemmas.List.{take_at}
use Rattle.solution_eval.specs.Counted.{CountsRatios}
use Rattle.solution_eval.proofs.Counting.{counts_more, room_at, positive_ratios}
use Rattle.solution_eval.proofs.overfull.count_ratios.Goals as goal

pub add_uses-requires-clause-positive : goal.add_uses-requires-clause-positive
add_uses-requires-clause-positive c = positive_ratios _ c.uses.result.now c.uses.ensures.value
    (c.requires.even c.loop-n.n (omega arith))

pub add_uses-requires-clause-room : goal.add_uses-requires-clause-room
add_uses-requires-clause-room c =
    let inside : c.loop-n.n < length c.args.solution.now = omega arith in
    room_at c.args.wanted.now c.args.solution.now c.loop-n.n (length c.args.problem.now.wires)
    c.loop-n.counts.items c.deref_mut.result.now inside
    (omega (arith, c.nets-n-end.ensures.rising.net_limit)) c.requires.is_for.distinct
    c.deref_mut.ensures.value c.loop-n.invariant

pub loop-n-init : goal.loop-n-init
loop-n-init c = subst (λ (k : ℕ). CountsRatios c.args.wanted.now [] k c.in_ok-counts.counts.items)
    c.wires.ensures.value (c.in_ok-counts.ensures c.args.wanted.now)

pub loop-n-preserved : goal.loop-n-preserved
loop-n-preserved c =
    let inside : c.loop-n.n < length c.args.solution.now = omega arith in
    let size : length c.add_uses.new.counts ≡ c.loop-n.counts.len = c.in_ok-add_uses.ensures.size
    ∙ c.deref_mut.ensures.len in
    let same : take c.loop-n.counts.len (c.add_uses.new.counts ++ drop (length c.add_uses.new.counts)
    c.loop-n.counts.items) ≡ c.add_uses.new.counts =
    take_at c.add_uses.new.counts (drop (length c.add_uses.new.counts) c.loop-n.counts.items)
    c.loop-n.counts.len size in
    subst (λ counts. CountsRatios c.args.wanted.now (take (c.loop-n.n + 1) c.args.solution.now)
    (length c.args.problem.now.wires) counts) (sym same)
    (counts_more c.args.wanted.now c.args.solution.now c.loop-n.n (length c.args.problem.now.wires)
    c.uses.result.now c.deref_mut.result.now c.add_uses.new.counts inside c.uses.ensures.value
    c.in_ok-add_uses.ensures.size c.in_ok-add_uses.ensures.counted
    (subst (λ counts. CountsRatios c.args.wanted.now (take c.loop-n.n c.args.solution.now)
    (length c.args.problem.now.wires) counts) (sym c.deref_mut.ensures.value) c.loop-n.invariant))
