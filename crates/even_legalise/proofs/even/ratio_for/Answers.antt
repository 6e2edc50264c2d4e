use Rattle.std.proofs.Common.{◌≡◌, ℕ, ◌+◌, ◌*◌, ◌≤◌, ◌^◌, ap, sym, ◌∙◌, arith}
use Rattle.std.proofs.lemmas.Nat.{le-div}
use Rattle.ratio_shares.specs.Shares.{share_for}
use Rattle.even_legalise.proofs.Evens.{ratio_by_claims}
use Rattle.even_legalise.proofs.even.ratio_for.Goals as goal

pub returns-clause-value : goal.returns-clause-value
returns-clause-value c =
    let share : 2 ^ 34 ≤ share_for c.args.claims 1 c.args.claim =
    le-div (2 ^ 34) (1 * 2 ^ 64 * c.args.claim) c.args.claims c.requires.some_claims (omega arith) in
    let product : (c.half_of_quotient-half.result + 1) * c.args.claims
    ≡ c.from.result * c.from-else-half-part.result =
    ap (λ (x : ℕ). x * c.args.claims) (sym c.from.ensures)
    ∙ ap (λ (x : ℕ). c.from.result * x) (sym c.from-else-half-part.ensures) in
    sym
    (ratio_by_claims c.args.claims c.args.claim c.half_of_quotient-half.result c.requires.some_claims
    (omega arith) (omega (arith, c.half_of_quotient-half.ensures.within, c.if-half-part.false))
    (omega (arith, c.half_of_quotient-half.ensures.above)) (omega (arith, product, c.if-from.false)))
