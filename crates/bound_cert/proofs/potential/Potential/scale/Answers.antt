use Rattle.std.proofs.Common.{◌≡◌, ℕ, ◌<◌, ◌≤◌, ◌^◌, List, length, get_or, sym, ◌∙◌, subst, arith}
use Rattle.std.proofs.lemmas.List.{with_items_is}
use Rattle.std.proofs.lemmas.Nat.{mul-le}
use Rattle.tdm_problem.specs.Limits.{most_fpgas}
use Rattle.bound_cert.specs.Scaling.{IsScaled}
use Rattle.bound_cert.proofs.InPlace.{IsReplacedBelow, replaced_none, replaced_more}
use Rattle.bound_cert.proofs.ScaleLaws.{IsTimes, IsScaled-done}
use Rattle.bound_cert.proofs.potential.Potential.scale.Goals as goal

pub loop-value-init : goal.loop-value-init
loop-value-init c =
    let items : c.deref_mut-value-items.result.now ≡ c.args.self.now = c.deref_mut-value-items.ensures.value
    ∙ c.self.view_is in
    subst (λ (vs : List ℕ). IsReplacedBelow (IsTimes c.args.length) 0 0 c.args.self.now vs) (sym items)
    (replaced_none (IsTimes c.args.length) 0 c.args.self.now)

pub overflow_mul-value : goal.overflow_mul-value
overflow_mul-value c =
    let i : ℕ = c.loop-value.value-index in
    let same : get_or c.loop-value.value-items i 0 ≡ get_or c.args.self.now i 0 =
    c.loop-value.invariant.left i (omega arith) in
    let there : i < length c.args.self.now = omega (arith, c.loop-value.invariant.count) in
    let small : get_or c.loop-value.value-items i 0 ≤ most_fpgas =
    omega (arith, same, c.requires.small i 0 there) in
    omega (
      arith,
      mul-le (get_or c.loop-value.value-items i 0) c.args.length most_fpgas
          (2 ^ 40) small c.requires.short,
    )

pub loop-value-preserved : goal.loop-value-preserved
loop-value-preserved c =
    replaced_more (IsTimes c.args.length) 0 c.loop-value.value-index c.args.self.now c.loop-value.value-items
    _ (omega arith) c.loop-value.invariant (omega arith)

pub returns : goal.returns
returns c =
    let items : c.deref_mut-value-items.result.now ≡ c.args.self.now = c.deref_mut-value-items.ensures.value
    ∙ c.self.view_is in
    subst (λ (vs : List ℕ). IsScaled c.args.length c.args.self.now vs)
    (sym (with_items_is c.self.inside.values c.loop-value.value-items
    (omega (arith, c.deref_mut-value-items.ensures.len))))
    (IsScaled-done c.args.length c.loop-value.value-index c.args.self.now c.loop-value.value-items
    c.loop-value.invariant (omega (arith, c.loop-value.invariant.count)))
