use Rattle.std.proofs.Common.{◌<◌, ◌+◌, length, arith, subst, sym}
use Rattle.std.specs.Prelude.{slice_index_or, slice_set, count_by, ◌==◌}
use Rattle.std.specs.FinMap as map
use Rattle.std.proofs.lemmas.List.{get_or_default}
use Rattle.tdm_problem.specs.declared.solution.WireUse.{WireUse}
use Rattle.tdm_problem.specs.Legal.{IsEvenRatio}
use Rattle.tdm_problem.specs.Routing.{Routing}
use Rattle.recip_sum.specs.Counts.{items}
use Rattle.recip_sum.specs.Rounded.{floor_sum}
use Rattle.solution_eval.specs.Counted.{IsWanted}
use Rattle.worst_refine.specs.Fitting.{HasFittingRatios}
use Rattle.worst_refine.specs.Lowered.{IsLowered}
use Rattle.worst_refine.specs.Steps.{FloorsTell, IsReplaced, IsStep}
use Rattle.worst_refine.proofs.Replacing.{read_ratio, read_wire, even_at, below_at, is_among, step_told, step_replaced}
use Rattle.worst_refine.proofs.tight.tighten_use.Goals as goal

pub floors_tell-requires : goal.floors_tell-requires
floors_tell-requires c =
    let routing = c.args.solution.now in
    let d : WireUse = record { wire = 0; ratio = 0 } in
    let use_there = slice_index_or c.uses.result.now c.args.place d in
    let has = read_ratio routing c.uses.result.now c.args.n c.args.place d c.uses.ensures.value
    c.requires.place_there in
    let at = read_wire routing c.uses.result.now c.args.n c.args.place d c.uses.ensures.value
    c.requires.place_there in
    let even = subst (λ r. IsEvenRatio r) has
    (even_at (length c.args.counts.now) routing c.args.n c.args.place c.requires.fitting c.requires.there
    c.requires.place_there) in
    let inside : use_there.wire < length c.args.counts.now =
    omega (
      arith,
      at,
      below_at (length c.args.counts.now) routing c.args.n c.args.place c.requires.fitting
          c.requires.there c.requires.place_there,
    ) in
    let wanted : IsWanted c.args.doubtful.now use_there.wire = c.if-not-doubtful-wire.false in
    let some = even.1 in
    let half = even.2 in
    omega (arith, some, half)

pub returns-then-floors_tell-clause-step : goal.returns-then-floors_tell-clause-step
returns-then-floors_tell-clause-step c =
    let routing = c.args.solution.now in
    let d : WireUse = record { wire = 0; ratio = 0 } in
    let use_there = slice_index_or c.uses.result.now c.args.place d in
    let has = read_ratio routing c.uses.result.now c.args.n c.args.place d c.uses.ensures.value
    c.requires.place_there in
    let at = read_wire routing c.uses.result.now c.args.n c.args.place d c.uses.ensures.value
    c.requires.place_there in
    let even = subst (λ r. IsEvenRatio r) has
    (even_at (length c.args.counts.now) routing c.args.n c.args.place c.requires.fitting c.requires.there
    c.requires.place_there) in
    let inside : use_there.wire < length c.args.counts.now =
    omega (
      arith,
      at,
      below_at (length c.args.counts.now) routing c.args.n c.args.place c.requires.fitting
          c.requires.there c.requires.place_there,
    ) in
    let wanted : IsWanted c.args.doubtful.now use_there.wire = c.if-not-doubtful-wire.false in
    let same = get_or_default c.args.counts.now use_there.wire c.index-counts-wire.result map.empty inside in
    let told = subst (λ m. FloorsTell (floor_sum (items m)) use_there.ratio) same
    (c.floors_tell.ensures c.if-floors_tell.true) in
    step_told (length c.args.counts.now) c.args.doubtful.now routing c.args.counts.now c.args.n c.args.place
    c.requires.there c.requires.place_there c.requires.fitting c.requires.counted use_there.wire
    use_there.ratio at has inside wanted told

pub replace_by_least-requires-clause-there : goal.replace_by_least-requires-clause-there
replace_by_least-requires-clause-there c =
    let routing = c.args.solution.now in
    let d : WireUse = record { wire = 0; ratio = 0 } in
    let use_there = slice_index_or c.uses.result.now c.args.place d in
    let has = read_ratio routing c.uses.result.now c.args.n c.args.place d c.uses.ensures.value
    c.requires.place_there in
    let at = read_wire routing c.uses.result.now c.args.n c.args.place d c.uses.ensures.value
    c.requires.place_there in
    let even = subst (λ r. IsEvenRatio r) has
    (even_at (length c.args.counts.now) routing c.args.n c.args.place c.requires.fitting c.requires.there
    c.requires.place_there) in
    let inside : use_there.wire < length c.args.counts.now =
    omega (
      arith,
      at,
      below_at (length c.args.counts.now) routing c.args.n c.args.place c.requires.fitting
          c.requires.there c.requires.place_there,
    ) in
    let wanted : IsWanted c.args.doubtful.now use_there.wire = c.if-not-doubtful-wire.false in
    let same = get_or_default c.args.counts.now use_there.wire c.index-counts-wire-2.result map.empty
    inside in
    subst (λ m. 0 < count_by (λ r. r == use_there.ratio) (items m)) (sym same)
    (is_among (length c.args.counts.now) c.args.doubtful.now routing c.args.counts.now c.args.n
    c.args.place c.requires.there c.requires.place_there c.requires.fitting c.requires.counted
    use_there.wire use_there.ratio at has inside wanted)

pub replace_by_least-requires-clause-even : goal.replace_by_least-requires-clause-even
replace_by_least-requires-clause-even c =
    let routing = c.args.solution.now in
    let d : WireUse = record { wire = 0; ratio = 0 } in
    let use_there = slice_index_or c.uses.result.now c.args.place d in
    let has = read_ratio routing c.uses.result.now c.args.n c.args.place d c.uses.ensures.value
    c.requires.place_there in
    let at = read_wire routing c.uses.result.now c.args.n c.args.place d c.uses.ensures.value
    c.requires.place_there in
    let even = subst (λ r. IsEvenRatio r) has
    (even_at (length c.args.counts.now) routing c.args.n c.args.place c.requires.fitting c.requires.there
    c.requires.place_there) in
    let inside : use_there.wire < length c.args.counts.now =
    omega (
      arith,
      at,
      below_at (length c.args.counts.now) routing c.args.n c.args.place c.requires.fitting
          c.requires.there c.requires.place_there,
    ) in
    let wanted : IsWanted c.args.doubtful.now use_there.wire = c.if-not-doubtful-wire.false in
    even

pub returns-clause-fitting : goal.returns-clause-fitting
returns-clause-fitting c =
    let routing = c.args.solution.now in
    let d : WireUse = record { wire = 0; ratio = 0 } in
    let use_there = slice_index_or c.uses.result.now c.args.place d in
    let has = read_ratio routing c.uses.result.now c.args.n c.args.place d c.uses.ensures.value
    c.requires.place_there in
    let at = read_wire routing c.uses.result.now c.args.n c.args.place d c.uses.ensures.value
    c.requires.place_there in
    let even = subst (λ r. IsEvenRatio r) has
    (even_at (length c.args.counts.now) routing c.args.n c.args.place c.requires.fitting c.requires.there
    c.requires.place_there) in
    let inside : use_there.wire < length c.args.counts.now =
    omega (
      arith,
      at,
      below_at (length c.args.counts.now) routing c.args.n c.args.place c.requires.fitting
          c.requires.there c.requires.place_there,
    ) in
    let wanted : IsWanted c.args.doubtful.now use_there.wire = c.if-not-doubtful-wire.false in
    let was = get_or_default c.args.counts.now use_there.wire c.index-counts-wire-2.result map.empty inside in
    let replaced = subst (λ m. IsReplaced m c.replace_by_least.new.counts use_there.ratio c.in_ok-ratio.ratio)
    was c.in_ok-ratio.ensures in
    subst (λ (s : Routing). HasFittingRatios (length c.args.counts.now) s) (sym c.set_ratio.ensures.changed)
    (step_replaced (length c.args.counts.now) c.args.doubtful.now routing c.args.counts.now c.args.n
    c.args.place c.requires.there c.requires.place_there c.requires.fitting c.requires.counted
    use_there.wire use_there.ratio at has inside wanted c.in_ok-ratio.ratio c.replace_by_least.new.counts
    even replaced).fitting

pub returns-clause-lowered : goal.returns-clause-lowered
returns-clause-lowered c =
    let routing = c.args.solution.now in
    let d : WireUse = record { wire = 0; ratio = 0 } in
    let use_there = slice_index_or c.uses.result.now c.args.place d in
    let has = read_ratio routing c.uses.result.now c.args.n c.args.place d c.uses.ensures.value
    c.requires.place_there in
    let at = read_wire routing c.uses.result.now c.args.n c.args.place d c.uses.ensures.value
    c.requires.place_there in
    let even = subst (λ r. IsEvenRatio r) has
    (even_at (length c.args.counts.now) routing c.args.n c.args.place c.requires.fitting c.requires.there
    c.requires.place_there) in
    let inside : use_there.wire < length c.args.counts.now =
    omega (
      arith,
      at,
      below_at (length c.args.counts.now) routing c.args.n c.args.place c.requires.fitting
          c.requires.there c.requires.place_there,
    ) in
    let wanted : IsWanted c.args.doubtful.now use_there.wire = c.if-not-doubtful-wire.false in
    let was = get_or_default c.args.counts.now use_there.wire c.index-counts-wire-2.result map.empty inside in
    let replaced = subst (λ m. IsReplaced m c.replace_by_least.new.counts use_there.ratio c.in_ok-ratio.ratio)
    was c.in_ok-ratio.ensures in
    subst (λ (s : Routing). IsLowered routing s) (sym c.set_ratio.ensures.changed)
    (step_replaced (length c.args.counts.now) c.args.doubtful.now routing c.args.counts.now c.args.n
    c.args.place c.requires.there c.requires.place_there c.requires.fitting c.requires.counted
    use_there.wire use_there.ratio at has inside wanted c.in_ok-ratio.ratio c.replace_by_least.new.counts
    even replaced).lowered

pub returns-clause-step : goal.returns-clause-step
returns-clause-step c =
    let routing = c.args.solution.now in
    let d : WireUse = record { wire = 0; ratio = 0 } in
    let use_there = slice_index_or c.uses.result.now c.args.place d in
    let has = read_ratio routing c.uses.result.now c.args.n c.args.place d c.uses.ensures.value
    c.requires.place_there in
    let at = read_wire routing c.uses.result.now c.args.n c.args.place d c.uses.ensures.value
    c.requires.place_there in
    let even = subst (λ r. IsEvenRatio r) has
    (even_at (length c.args.counts.now) routing c.args.n c.args.place c.requires.fitting c.requires.there
    c.requires.place_there) in
    let inside : use_there.wire < length c.args.counts.now =
    omega (
      arith,
      at,
      below_at (length c.args.counts.now) routing c.args.n c.args.place c.requires.fitting
          c.requires.there c.requires.place_there,
    ) in
    let wanted : IsWanted c.args.doubtful.now use_there.wire = c.if-not-doubtful-wire.false in
    let was = get_or_default c.args.counts.now use_there.wire c.index-counts-wire-2.result map.empty inside in
    let replaced = subst (λ m. IsReplaced m c.replace_by_least.new.counts use_there.ratio c.in_ok-ratio.ratio)
    was c.in_ok-ratio.ensures in
    subst (λ (s : Routing). IsStep (length c.args.counts.now) c.args.doubtful.now routing s
    (slice_set c.args.counts.now use_there.wire c.replace_by_least.new.counts) c.args.n c.args.place
    (c.args.place + 1)) (sym c.set_ratio.ensures.changed)
    (step_replaced (length c.args.counts.now) c.args.doubtful.now routing c.args.counts.now c.args.n
    c.args.place c.requires.there c.requires.place_there c.requires.fitting c.requires.counted
    use_there.wire use_there.ratio at has inside wanted c.in_ok-ratio.ratio c.replace_by_least.new.counts
    even replaced)
