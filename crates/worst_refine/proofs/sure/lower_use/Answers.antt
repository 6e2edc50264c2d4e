use Rattle.std.proofs.Common.{◌<◌, length, arith, subst, sym}
use Rattle.std.specs.Prelude.{slice_index_or, slice_set}
use Rattle.tdm_problem.specs.declared.solution.WireUse.{WireUse}
use Rattle.tdm_problem.specs.Routing.{Routing}
use Rattle.worst_refine.specs.Spent.{IsSureStep}
use Rattle.worst_refine.proofs.Replacing.{read_ratio, read_wire, even_at, below_at}
use Rattle.worst_refine.proofs.SureSteps.{sure_step}
use Rattle.worst_refine.proofs.sure.lower_use.Goals as goal

pub ceiling_of_reciprocal-own-requires : goal.ceiling_of_reciprocal-own-requires
ceiling_of_reciprocal-own-requires c =
    let routing = c.args.solution.now in
    let d : WireUse = record { wire = 0; ratio = 0 } in
    let has = read_ratio routing c.uses.result.now c.args.n c.args.place d c.uses.ensures.value
    c.requires.place_there in
    let even = even_at (length c.args.spent.now) routing c.args.n c.args.place c.requires.fitting
    c.requires.there c.requires.place_there in
    let some = even.1 in
    let half = even.2 in
    omega (arith, has, some, half)

pub returns : goal.returns
returns c =
    let routing = c.args.solution.now in
    let d : WireUse = record { wire = 0; ratio = 0 } in
    let use_there = slice_index_or c.uses.result.now c.args.place d in
    let new = c.least_ratio_within-ratio.result in
    let v = c.saturating_sub-sum.result in
    let has = read_ratio routing c.uses.result.now c.args.n c.args.place d c.uses.ensures.value
    c.requires.place_there in
    let at = read_wire routing c.uses.result.now c.args.n c.args.place d c.uses.ensures.value
    c.requires.place_there in
    let inside : use_there.wire < length c.args.spent.now =
    omega (
      arith,
      at,
      below_at (length c.args.spent.now) routing c.args.n c.args.place c.requires.fitting
          c.requires.there c.requires.place_there,
    ) in
    subst (λ (s : Routing). IsSureStep (length c.args.spent.now) routing s
    (slice_set c.args.spent.now use_there.wire v)) (sym c.set_ratio.ensures.changed)
    (sure_step (length c.args.spent.now) routing c.args.spent.now c.args.n c.args.place use_there.wire
    use_there.ratio new v c.requires.there c.requires.place_there c.requires.fitting c.requires.spent
    at has inside c.least_ratio_within-ratio.ensures
    (omega (arith, c.if-ratio-wire_use.false))
    (omega (arith, c.if-spent-wire-gt-WHOLE.false))
    (omega (
      arith,
      c.saturating_sub-sum.ensures,
      c.ceiling_of_reciprocal-own.ensures,
      c.ceiling_of_reciprocal.ensures,
    ))
    (omega (arith, c.if-sum-gt-WHOLE.false)))
