use Rattle.std.proofs.Common.{ℕ, ◌<◌, length, get_or, set, ap, ◌∙◌, arith}
use Rattle.std.proofs.lemmas.List.{get_or_default}
use Rattle.std.proofs.lemmas.List.Edits.{map_over_more}
use Rattle.tdm_problem.specs.Roots.{root_of}
use Rattle.tdm_cli.proofs.numbers.take_roots.Goals as goal

pub loop-number-preserved : goal.loop-number-preserved
loop-number-preserved c =
    let here : ℕ = get_or c.loop-number.numbers c.loop-number.number-index 0 in
    let there : c.loop-number.number-index < length c.loop-number.numbers = omega arith in
    ap (λ (x : ℕ). set c.loop-number.numbers c.loop-number.number-index x) c.root.ensures
    ∙ map_over_more root_of c.args.numbers.now c.loop-number.numbers c.loop-number.number-index here
    (omega arith) c.loop-number.invariant (get_or_default c.loop-number.numbers c.loop-number.number-index
    0 here there)
