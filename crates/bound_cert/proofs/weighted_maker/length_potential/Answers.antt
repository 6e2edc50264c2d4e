use Rattle.std.proofs.Common.{ℕ, ◌^◌, ◌≤◌, List, get_or, sym, ◌∙◌, subst, arith}
use Rattle.std.specs.Prelude.{All}
use Rattle.bound_cert.specs.Limits.{most_potential_value}
use Rattle.bound_cert.specs.Makers.{IsSourcePotential}
use Rattle.bound_cert.proofs.LengthValues.{least_potential, least_small}
use Rattle.bound_cert.proofs.weighted_maker.length_potential.Goals as goal

pub returns-clause-least : goal.returns-clause-least
returns-clause-least c board same =
    subst (λ (values : List ℕ). IsSourcePotential board (λ e. get_or c.args.lengths.now e 0) c.args.source
    values)
    (sym (c.new.ensures ∙ c.in_ok-values.ensures.values))
    (least_potential c.args.graph.now (λ e. get_or c.args.lengths.now e 0) c.in_ok-forest.forest
    c.in_ok-forest.ensures.least c.args.source c.in_ok-forest.ensures.root board same)

pub returns-clause-within : goal.returns-clause-within
returns-clause-within c =
    let small = least_small c.args.graph.now (λ e. get_or c.args.lengths.now e 0) c.in_ok-forest.forest
    c.in_ok-forest.ensures.least c.in_ok-values.ensures.graph (2 ^ 48)
    (λ e below. c.requires.small e 0 (omega (arith, below, c.requires.count))) in
    subst (λ (values : List ℕ). All (λ v. v ≤ most_potential_value) values)
    (sym (c.new.ensures ∙ c.in_ok-values.ensures.values))
    (λ f d below. omega (arith, small f d below))
