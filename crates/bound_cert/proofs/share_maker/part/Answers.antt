use Rattle.std.proofs.Common.{ℕ, ◌/◌, ◌≤◌, ap, ◌∙◌, subst, sym}
use Rattle.bound_cert.proofs.ShareNumbers.{part_none, part_some, part_within}
use Rattle.bound_cert.proofs.share_maker.part.Goals as goal

pub returns-then-parts-eq0-clause-value : goal.returns-then-parts-eq0-clause-value
returns-then-parts-eq0-clause-value c = part_none c.args.whole c.args.parts c.if-parts-eq0.true

pub returns-clause-value : goal.returns-clause-value
returns-clause-value c = ap (λ (n : ℕ). c.args.whole / n) c.from.ensures
    ∙ part_some c.args.whole c.args.parts c.if-parts-eq0.false

pub returns-clause-within : goal.returns-clause-within
returns-clause-within c most limit =
    subst (λ (n : ℕ). c.args.whole / n ≤ most) (sym c.from.ensures)
    (part_within c.args.whole c.args.parts most c.if-parts-eq0.false limit)
