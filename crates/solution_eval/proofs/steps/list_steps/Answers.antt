use Rattle.std.proofs.Common.{◌≡◌, ◌++◌, length, take, drop, subst, sym, ◌∙◌}
use Rattle.std.proofs.lemmas.List.{take_at}
use Rattle.std.proofs.lemmas.List.Sorted.{length_permutation}
use Rattle.tdm_problem.specs.Routing.{wires_of}
use Rattle.solution_eval.specs.Steps.{AreSteps}
use Rattle.solution_eval.proofs.Along.{along_moved}
use Rattle.solution_eval.proofs.steps.list_steps.Goals as goal

pub returns-clause-steps : goal.returns-clause-steps
returns-clause-steps c =
    let size : length c.sort_steps.new.steps ≡ c.collect_steps.new.steps.len =
    length_permutation c.deref_mut.result.now c.sort_steps.new.steps c.sort_steps.ensures.permutation
    ∙ c.deref_mut.ensures.len in
    let same : take c.collect_steps.new.steps.len (c.sort_steps.new.steps
    ++ drop (length c.sort_steps.new.steps) c.collect_steps.new.steps.items)
    ≡ c.sort_steps.new.steps =
    take_at c.sort_steps.new.steps (drop (length c.sort_steps.new.steps) c.collect_steps.new.steps.items)
    c.collect_steps.new.steps.len size in
    subst (λ steps. AreSteps c.args.problem.now (wires_of c.args.uses.now) steps) (sym same)
    (along_moved c.args.problem.now (wires_of c.args.uses.now) c.deref_mut.result.now c.sort_steps.new.steps
    c.sort_steps.ensures.permutation
    (subst (λ steps. AreSteps c.args.problem.now (wires_of c.args.uses.now) steps)
    (sym c.deref_mut.ensures.value) c.in_ok-collect_steps.ensures))
