use Rattle.std.proofs.Common.{ℕ, ◌<◌, length, get_or, set, ap, ◌∙◌, arith}
use Rattle.std.proofs.lemmas.List.{get_or_default}
use Rattle.std.proofs.lemmas.List.Edits.{map_over_more}
use Rattle.group_multipliers.specs.Renewal.{weight_for}
use Rattle.group_multipliers.proofs.renewal.put_weights.Goals as goal

pub loop-pull-preserved : goal.loop-pull-preserved
loop-pull-preserved c =
    let here : ℕ = get_or c.loop-pull.pulls c.loop-pull.pull-index 0 in
    let there : c.loop-pull.pull-index < length c.loop-pull.pulls = omega arith in
    ap (λ (x : ℕ). set c.loop-pull.pulls c.loop-pull.pull-index x) c.weight_of.ensures
    ∙ map_over_more (weight_for c.args.strongest) c.args.pulls.now c.loop-pull.pulls c.loop-pull.pull-index
    here (omega arith) c.loop-pull.invariant
    (get_or_default c.loop-pull.pulls c.loop-pull.pull-index 0 here there)
