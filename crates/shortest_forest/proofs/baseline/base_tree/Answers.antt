use Rattle.std.proofs.Common.{ℕ, List, sym, subst}
use Rattle.tdm_problem.specs.Walk.{IsMinimalTree}
use Rattle.shortest_forest.specs.Baseline.{IsBaseTree}
use Rattle.shortest_forest.proofs.baseline.base_tree.Goals as goal

pub returns-then-branch-clause-base : goal.returns-then-branch-clause-base
returns-then-branch-clause-base c = λ board same.
    let P : List ℕ → Type 0 = IsBaseTree board c.args.forest.now.root c.args.terminals.now in
    subst P (sym c.into_wires.ensures) (c.in_ok-build.ensures.base c.if-branch.true board same)

pub returns-then-branch-clause-minimal : goal.returns-then-branch-clause-minimal
returns-then-branch-clause-minimal c = λ board same.
    let P : List ℕ → Type 0 = λ es. IsMinimalTree board es c.args.terminals.now in
    subst P (sym c.into_wires.ensures) (c.in_ok-build.ensures.minimal c.if-branch.true board same)
