use Rattle.std.proofs.Common.{◌<◌, List, ℕ, [], length, subst, arith}
use Rattle.std.proofs.lemmas.List.{get_or_default}
use Rattle.bound_cert.specs.Scaling.{IsScaled}
use Rattle.bound_cert.proofs.InPlace.{replaced_none, replaced_more}
use Rattle.bound_cert.proofs.ScaleLaws.{AreScaled-done}
use Rattle.bound_cert.proofs.scaling.scale_all.Goals as goal

pub loop-potential-init : goal.loop-potential-init
loop-potential-init c = replaced_none (IsScaled c.args.length) [] c.args.potentials.now

pub loop-potential-preserved : goal.loop-potential-preserved
loop-potential-preserved c =
    let i : ℕ = c.loop-potential.potential-index in
    let there : i < length c.loop-potential.potentials = omega arith in
    replaced_more (IsScaled c.args.length) [] i c.args.potentials.now c.loop-potential.potentials
    c.scale.new.self there c.loop-potential.invariant
    (subst (λ (potential : List ℕ). IsScaled c.args.length potential c.scale.new.self)
    (get_or_default c.loop-potential.potentials i c.potential-item.result [] there) c.scale.ensures)

pub returns : goal.returns
returns c =
    AreScaled-done c.args.length c.loop-potential.potential-index c.args.potentials.now
    c.loop-potential.potentials c.loop-potential.invariant (omega arith)
