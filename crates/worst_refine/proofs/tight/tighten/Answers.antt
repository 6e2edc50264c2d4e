use Rattle.std.proofs.Common.{◌≡◌, ℕ, length, subst, ap, ◌∙◌, arith}
use Rattle.worst_refine.specs.Fitting.{HasFittingRatios}
use Rattle.worst_refine.proofs.Lowering.{IsLegal-lowered, IsLowered-trans}
use Rattle.worst_refine.proofs.Worth.{value_lowered}
use Rattle.worst_refine.proofs.tight.tighten.Goals as goal

pub returns-clause-legal : goal.returns-clause-legal
returns-clause-legal c =
    let size : length c.deref_mut.result.now ≡ length c.args.problem.now.wires =
    ap length c.deref_mut.ensures.value ∙ c.in_ok-counts.ensures.whole in
    IsLegal-lowered c.args.problem.now c.args.solution.now c.tighten_nets.new.solution c.requires.legal
    (IsLowered-trans c.args.solution.now c.lower_surely.new.solution c.tighten_nets.new.solution
    c.lower_surely.ensures.lowered c.tighten_nets.ensures.lowered)
    (subst (λ (k : ℕ). HasFittingRatios k c.tighten_nets.new.solution) size c.tighten_nets.ensures.fitting)

pub tighten_nets-requires-clause-few : goal.tighten_nets-requires-clause-few
tighten_nets-requires-clause-few c =
    let size : length c.deref_mut.result.now ≡ length c.args.problem.now.wires =
    ap length c.deref_mut.ensures.value ∙ c.in_ok-counts.ensures.whole in
    let limit = c.wires.ensures.board.wire_limit in
    omega (arith, size, limit)

-- after want of memory the first pass alone has lowered ratios
pub returns-in_err-spent-clause-legal : goal.returns-in_err-spent-clause-legal
returns-in_err-spent-clause-legal c =
    IsLegal-lowered c.args.problem.now c.args.solution.now c.lower_surely.new.solution c.requires.legal
    c.lower_surely.ensures.lowered c.lower_surely.ensures.fitting

pub returns-in_err-counts-clause-legal : goal.returns-in_err-counts-clause-legal
returns-in_err-counts-clause-legal c =
    IsLegal-lowered c.args.problem.now c.args.solution.now c.lower_surely.new.solution c.requires.legal
    c.lower_surely.ensures.lowered c.lower_surely.ensures.fitting

pub returns-in_err-doubtful-clause-legal : goal.returns-in_err-doubtful-clause-legal
returns-in_err-doubtful-clause-legal c =
    IsLegal-lowered c.args.problem.now c.args.solution.now c.lower_surely.new.solution c.requires.legal
    c.lower_surely.ensures.lowered c.lower_surely.ensures.fitting

-- lower ratios have no greater value
pub returns-clause-value : goal.returns-clause-value
returns-clause-value c =
    value_lowered c.args.problem.now c.args.solution.now c.tighten_nets.new.solution
    (IsLowered-trans c.args.solution.now c.lower_surely.new.solution c.tighten_nets.new.solution
    c.lower_surely.ensures.lowered c.tighten_nets.ensures.lowered)

pub returns-in_err-spent-clause-value : goal.returns-in_err-spent-clause-value
returns-in_err-spent-clause-value c =
    value_lowered c.args.problem.now c.args.solution.now c.lower_surely.new.solution
    c.lower_surely.ensures.lowered

pub returns-in_err-counts-clause-value : goal.returns-in_err-counts-clause-value
returns-in_err-counts-clause-value c =
    value_lowered c.args.problem.now c.args.solution.now c.lower_surely.new.solution
    c.lower_surely.ensures.lowered

pub returns-in_err-doubtful-clause-value : goal.returns-in_err-doubtful-clause-value
returns-in_err-doubtful-clause-value c =
    value_lowered c.args.problem.now c.args.solution.now c.lower_surely.new.solution
    c.lower_surely.ensures.lowered
