use Rattle.std.proofs.Common.{subst, sym}
use Rattle.tdm_problem.specs.Routing.{Routing, HasRisingWires}
use Rattle.tdm_problem.proofs.Routings.{HasRisingWires-with_ratio, with_ratio-read}
use Rattle.tdm_problem.proofs.solution.Solution.set_ratio.Goals as goal

pub invariant_of-self : goal.invariant_of-self
invariant_of-self c =
    let there = rw (← c.self.view_is) at c.requires.net_there in
    let place_there = rw (← c.self.view_is) at c.requires.place_there in
    let changed = with_ratio-read c.self.inside.uses c.set.new.self c.row.result.now c.args.n c.args.place
    c.args.ratio _ c.row.ensures.value place_there c.set.ensures in
    subst (λ (routing : Routing). HasRisingWires routing) (sym changed)
    (HasRisingWires-with_ratio c.self.inside.uses c.args.n c.args.place c.args.ratio there c.self.invariant)

pub returns-clause-all_rising : goal.returns-clause-all_rising
returns-clause-all_rising c =
    let there = rw (← c.self.view_is) at c.requires.net_there in
    let place_there = rw (← c.self.view_is) at c.requires.place_there in
    let changed = with_ratio-read c.self.inside.uses c.set.new.self c.row.result.now c.args.n c.args.place
    c.args.ratio _ c.row.ensures.value place_there c.set.ensures in
    subst (λ (routing : Routing). HasRisingWires routing) (sym changed)
    (HasRisingWires-with_ratio c.self.inside.uses c.args.n c.args.place c.args.ratio there c.self.invariant)
