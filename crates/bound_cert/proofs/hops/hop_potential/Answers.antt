use Rattle.std.proofs.Common.{ℕ, ◌≤◌, List, length, sym, ◌∙◌, subst}
use Rattle.std.specs.Prelude.{All}
use Rattle.tdm_problem.specs.Limits.{most_fpgas}
use Rattle.bound_cert.specs.Makers.{IsSourcePotential}
use Rattle.bound_cert.proofs.HopValues.{all_small, all_short, all_hops}
use Rattle.bound_cert.proofs.hops.hop_potential.Goals as goal

pub returns-clause-hops : goal.returns-clause-hops
returns-clause-hops c board same =
    subst (λ (values : List ℕ). IsSourcePotential board (λ _. 1) c.args.source values)
    (sym (c.new.ensures ∙ c.in_ok-values.ensures.values))
    (all_hops c.args.graph.now c.in_ok-forest.forest c.in_ok-values.ensures.graph c.in_ok-forest.ensures.hops
    c.args.source c.in_ok-forest.ensures.root board same)

pub returns-clause-small : goal.returns-clause-small
returns-clause-small c =
    subst (λ (values : List ℕ). All (λ v. v ≤ most_fpgas) values)
    (sym (c.new.ensures ∙ c.in_ok-values.ensures.values))
    (all_small c.args.graph.now c.in_ok-forest.forest c.in_ok-values.ensures.graph
    c.in_ok-forest.ensures.hops)

pub returns-clause-short : goal.returns-clause-short
returns-clause-short c =
    subst (λ (values : List ℕ). All (λ v. v ≤ length c.args.graph.now.wires) values)
    (sym (c.new.ensures ∙ c.in_ok-values.ensures.values))
    (all_short c.args.graph.now c.in_ok-forest.forest c.in_ok-values.ensures.graph
    c.in_ok-forest.ensures.hops)
