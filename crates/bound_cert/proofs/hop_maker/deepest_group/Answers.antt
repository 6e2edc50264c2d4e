use Rattle.std.proofs.Common.{◌≡◌, ℕ, ◌+◌, List, [], get_or, sym, ap, ◌∙◌, subst, arith}
use Rattle.bound_cert.specs.Depths.{group_depth}
use Rattle.bound_cert.proofs.Deepest.{IsDeepestBelow, deepest_one, deepest_kept, deepest_new, IsFirstDeepest-made}
use Rattle.bound_cert.proofs.hop_maker.deepest_group.Goals as goal
use Rattle.bound_cert.proofs.hop_maker.deepest_group.Goals.{then-most-depth, else-most-depth}

pub loop-g-init : goal.loop-g-init
loop-g-init c =
    deepest_one c.args.depths.now c.args.problem.now.groups c.depth_of_group-most.result
    (c.depth_of_group-most.ensures ∙ ap (group_depth c.args.depths.now) (sym c.group.ensures.value))

pub loop-g-preserved : goal.loop-g-preserved
loop-g-preserved c =
    let depth : ℕ = c.depth_of_group-depth.result in
    let groups : List (List ℕ) = c.args.problem.now.groups in
    let depth_is : depth ≡ group_depth c.args.depths.now (get_or groups c.loop-g.g []) =
    c.depth_of_group-depth.ensures
    ∙ ap (group_depth c.args.depths.now) (sym c.group-in-loop-g.ensures.value) in
    elim c.if-most-depth.branch [
      | then-most-depth w ↦
          subst (λ (g : ℕ). IsDeepestBelow c.args.depths.now groups (c.loop-g.g + 1) g c.if-most-depth.most)
          (sym w.deepest-is)
          (subst (λ (most : ℕ). IsDeepestBelow c.args.depths.now groups (c.loop-g.g + 1) c.loop-g.g most)
          (sym w.most-is)
          (deepest_new c.args.depths.now groups c.loop-g.g c.loop-g.deepest c.loop-g.most depth
          c.loop-g.invariant depth_is w.if-most-depth.true))
      | else-most-depth w ↦
          subst (λ (g : ℕ). IsDeepestBelow c.args.depths.now groups (c.loop-g.g + 1) g c.if-most-depth.most)
          (sym w.deepest-is)
          (subst (λ (most : ℕ). IsDeepestBelow c.args.depths.now groups (c.loop-g.g + 1) c.loop-g.deepest
          most) (sym w.most-is)
          (deepest_kept c.args.depths.now groups c.loop-g.g c.loop-g.deepest c.loop-g.most depth
          c.loop-g.invariant depth_is w.if-most-depth.false))
    ]

pub returns : goal.returns
returns c =
    IsFirstDeepest-made c.args.problem.now c.args.depths.now c.loop-g.g c.loop-g.deepest c.loop-g.most
    c.loop-g.invariant (omega arith)
