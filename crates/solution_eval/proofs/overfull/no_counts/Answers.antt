use Rattle.std.proofs.Common.{◌≡◌, [], subst, arith}
use Rattle.solution_eval.specs.Counted.{CountsRatios}
use Rattle.solution_eval.proofs.Counting.{no_counts_none, no_counts_more}
use Rattle.solution_eval.proofs.overfull.no_counts.Goals as goal

pub loop-init : goal.loop-init
loop-init c = λ wanted. no_counts_none wanted c.new-counts.result.items c.new-counts.ensures.items

pub loop-preserved : goal.loop-preserved
loop-preserved c = λ wanted. no_counts_more wanted c.loop.counter c.loop.counts.items c.push.new.self.items
    c.new.result c.in_ok-push.ensures.items c.new.ensures.no_items (c.loop.invariant wanted)

pub returns : goal.returns
returns c = λ wanted.
    let all : c.loop.counter ≡ c.args.wires = omega arith in
    subst (λ n. CountsRatios wanted [] n c.loop.counts.items) all (c.loop.invariant wanted)
