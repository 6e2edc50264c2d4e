use Rattle.std.proofs.Common.{ℕ, ◌≤◌, ◌+◌, length, arith, subst, ap, ◌∙◌}
use Rattle.tdm_problem.specs.Routing.{uses_of}
use Rattle.worst_refine.specs.Steps.{IsStep}
use Rattle.worst_refine.proofs.Lowering.{few_uses}
use Rattle.worst_refine.proofs.Replacing.{step_more}
use Rattle.worst_refine.proofs.tight.tighten_net.Goals as goal

pub loop-place-preserved : goal.loop-place-preserved
loop-place-preserved c =
    let l = c.loop-place in
    let size = l.invariant.0 in
    let within : l.place ≤ length (uses_of c.args.solution.now c.args.n) =
    omega (arith, ap length c.uses.ensures.value) in
    let step = subst (λ (k : ℕ). IsStep k c.args.doubtful.now l.solution c.tighten_use.new.solution
    c.tighten_use.new.counts c.args.n l.place (l.place + 1)) size c.in_ok-tighten_use.ensures.step in (
      c.tighten_use.ensures.size ∙ size,
      step_more (length c.args.counts.now) c.args.doubtful.now c.args.solution.now l.solution
          c.tighten_use.new.solution l.counts c.tighten_use.new.counts c.args.n 0 l.place
          (l.place + 1) c.requires.there within l.invariant.1 step,
    )

pub overflow_cast-places : goal.overflow_cast-places
overflow_cast-places c =
    let few = few_uses (length c.args.counts.now) c.args.solution.now c.args.n c.requires.fitting
    c.requires.there in
    omega (arith, ap length c.uses.ensures.value, few, c.requires.few)
