use Rattle.std.proofs.Common.{ℕ, ◌<◌, length, get_or, set, ap, ◌∙◌, arith}
use Rattle.std.specs.Prelude.{max}
use Rattle.std.specs.Int.{div_ceil}
use Rattle.std.proofs.lemmas.List.{get_or_default}
use Rattle.std.proofs.lemmas.List.Edits.{map_over_more}
use Rattle.even_legalise.proofs.claims.to_least_claims.Goals as goal

pub loop-number-preserved : goal.loop-number-preserved
loop-number-preserved c =
    let here : ℕ = get_or c.loop-number.most c.loop-number.number-index 0 in
    let there : c.loop-number.number-index < length c.loop-number.most = omega arith in
    ap (λ (x : ℕ). set c.loop-number.most c.loop-number.number-index x) c.least_claim_for.ensures
    ∙ map_over_more (λ number. max (div_ceil number 1024) 1) c.args.most.now c.loop-number.most
    c.loop-number.number-index here (omega arith) c.loop-number.invariant
    (get_or_default c.loop-number.most c.loop-number.number-index 0 here there)
