use Rattle.std.proofs.Common.{◌≤◌, arith, subst, sym}
use Rattle.std.specs.Prelude.{All}
use Rattle.tdm_problem.specs.Limits.{most_nets}
use Rattle.even_legalise.proofs.UniformSteps.{distinct_row, counts_small}
use Rattle.even_legalise.proofs.counts.nets_on_wires.Goals as goal

pub add_net-requires-clause-distinct : goal.add_net-requires-clause-distinct
add_net-requires-clause-distinct c = distinct_row c.wires_of.result.now c.wires_of.ensures.rising

pub add_net-requires-clause-room : goal.add_net-requires-clause-room
add_net-requires-clause-room c =
    let small : All (λ count. count ≤ most_nets) c.deref_mut.result.now =
    subst (λ counts. All (λ count. count ≤ most_nets) counts) (sym c.deref_mut.ensures.value)
    (counts_small c.args.trees.now c.loop-n.n c.args.wires c.loop-n.counts.items c.nets-n-end.ensures.rising
    c.loop-n.invariant) in
    λ k d inside. omega (arith, small k d inside)
