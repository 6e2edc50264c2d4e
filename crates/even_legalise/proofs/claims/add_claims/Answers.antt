use Rattle.std.proofs.Common.{ℕ, ◌+◌, ◌<◌, ◌≤◌, ◌^◌, length, get_or, ap, refl, arith}
use Rattle.std.specs.Prelude.{max}
use Rattle.even_legalise.proofs.ClaimSteps.{add_step, added_before}
use Rattle.even_legalise.proofs.claims.add_claims.Goals as goal

pub overflow_add-claims : goal.overflow_add-claims
overflow_add-claims c =
    let there : get_or c.args.wires.now c.loop-e.e-index 0 < length c.args.claims.now =
    omega (arith, c.requires.there c.loop-e.e-index 0 (omega arith), c.requires.paired) in
    let room : get_or c.args.claims.now (get_or c.args.wires.now c.loop-e.e-index 0) 0 ≤ 2 ^ 60 =
    c.requires.room (get_or c.args.wires.now c.loop-e.e-index 0) 0 there in
    let least : get_or c.args.least.now (get_or c.args.wires.now c.loop-e.e-index 0) 0 ≤ 2 ^ 30 =
    c.requires.least_small (get_or c.args.wires.now c.loop-e.e-index 0) 0 (omega (
      arith,
      there,
      c.requires.paired,
    )) in
    omega (
      arith,
      c.loop-e.invariant (get_or c.args.wires.now c.loop-e.e-index 0) there,
      added_before c.args.wires.now c.loop-e.e-index
          (max c.args.number (get_or c.args.least.now (get_or c.args.wires.now c.loop-e.e-index 0) 0))
          (omega arith) c.requires.distinct,
    )

pub loop-e-preserved : goal.loop-e-preserved
loop-e-preserved c = λ e inside.
    let there : get_or c.args.wires.now c.loop-e.e-index 0 < length c.loop-e.claims =
    omega (
      arith,
      c.requires.there c.loop-e.e-index 0 (omega arith),
      c.requires.paired,
      c.loop-e.auto.claims,
    ) in
    add_step c.loop-e.claims c.args.wires.now c.args.least.now c.loop-e.e-index c.args.number
    (get_or c.args.wires.now c.loop-e.e-index 0) _ e (get_or c.args.claims.now e 0)
    (omega arith) refl there
    (ap (λ (x : ℕ). get_or c.loop-e.claims (get_or c.args.wires.now c.loop-e.e-index 0) 0 + x)
    c.claim.ensures) (c.loop-e.invariant e inside)
