use Rattle.std.proofs.Common.{◌≡◌, ℕ, suc, ◌+◌, ◌<◌, List, ◌∷◌, length, drop, get_or, false, refl, sym, ap, ◌∙◌, subst, arith}
use Rattle.std.proofs.lemmas.List.{length-set}
use Rattle.board_graph.specs.Graph.{board_of}
use Rattle.bound_cert.specs.Growth.{GrowOver}
use Rattle.cert_checker.specs.Growing.{arcs_of, height_in, HasReached, IsGrowing}
use Rattle.cert_checker.proofs.GrowingLaws.{IsGrowing-first, IsGrowing-more, IsGrowing-whole, goals-after, goals-among, not-joined}
use Rattle.cert_checker.proofs.growth.grow_all.Goals as goal

pub loop-i-init : goal.loop-i-init
loop-i-init c =
    let board = board_of c.args.graph.now in
    let root = c.args.root in
    let first = c.args.first in
    let later = c.args.later.now in
    let start = arcs_of c.args.up.now.items c.args.down.now.items in
    let rests = arcs_of c.wear.new.up.items c.wear.new.down.items in
    let grew = IsGrowing-first board root first later start rests (height_in c.args.start.now c.args.reach)
    c.args.search.now.goals c.args.reach c.requires.reach c.requires.heights c.requires.marked
    (omega (arith, c.ranges.reach.fits)) c.in_ok-wear.ensures.worn in (
      subst (λ (growth : ℕ). IsGrowing board root (first ∷ later) start 1 growth rests
          c.args.search.now.goals) (sym c.from-growth.ensures) grew,
      c.wear.ensures.up,
      c.wear.ensures.down,
      refl,
      refl,
      c.wear.ensures.listed,
      c.wear.ensures.worn_limit,
      c.wear.ensures.near_limit,
    )

pub remove_goal-requires : goal.remove_goal-requires
remove_goal-requires c = omega (
  arith,
  c.requires.there (suc c.loop-i.i) 0 (omega (arith, c.loop-i-test.true)),
  c.loop-i.invariant.4,
  c.requires.goals,
)

pub reach_from-requires-clause-there : goal.reach_from-requires-clause-there
reach_from-requires-clause-there c =
    c.requires.there (suc c.loop-i.i) 0 (omega (arith, c.loop-i-test.true))

pub wear-requires-in-loop-i-clause-there : goal.wear-requires-in-loop-i-clause-there
wear-requires-in-loop-i-clause-there c =
    c.requires.there (suc c.loop-i.i) 0 (omega (arith, c.loop-i-test.true))

pub returns-in_default-clause-apart : goal.returns-in_default-clause-apart
returns-in_default-clause-apart c =
    let root = c.args.root in
    let growing = c.args.first ∷ c.args.later.now in
    let i = suc c.loop-i.i in
    let below : i < length growing = omega (arith, c.loop-i-test.true) in
    let s = c.reach_from.new.search in
    let are = goals-after root growing i below c.loop-i.search.goals s.goals c.requires.distinct
    c.loop-i.invariant.0.goals_are (c.reach_from.ensures.goals ∙ c.remove_goal.ensures.goals) in
    not-joined root growing i below (board_of c.args.graph.now) s
    (rw c.in_default.is at c.in_ok-reach.ensures.none) are

pub returns-then-i-later-clause-grown : goal.returns-then-i-later-clause-grown
returns-then-i-later-clause-grown c =
    let board = board_of c.args.graph.now in
    let root = c.args.root in
    let growing = c.args.first ∷ c.args.later.now in
    let i = suc c.loop-i.i in
    let below : i < length growing = omega (arith, c.loop-i-test.true) in
    let s = c.reach_from.new.search in
    let start = arcs_of c.args.up.now.items c.args.down.now.items in
    let rests = arcs_of c.loop-i.up.items c.loop-i.down.items in
    let are = goals-after root growing i below c.loop-i.search.goals s.goals c.requires.distinct
    c.loop-i.invariant.0.goals_are (c.reach_from.ensures.goals ∙ c.remove_goal.ensures.goals) in
    let reached = subst (λ (xs : List ℕ). HasReached board (arcs_of xs c.loop-i.down.items)
    (get_or growing i 0) s c.in-Some.reach) c.deref.ensures.value
    (subst (λ (ys : List ℕ). HasReached board (arcs_of c.deref.result.now ys) (get_or growing i 0) s
    c.in-Some.reach) c.deref-in-loop-i.ensures.value
    (rw c.in-Some.is at c.in_ok-reach.ensures.reached)) in
    let last = IsGrowing-more root growing i below board start rests rests (height_in s c.in-Some.reach)
    c.loop-i.search.goals s.goals c.loop-i.growth c.in-Some.reach c.loop-i.invariant.0
    (reached.reaches (root ∷ drop (i + 1) growing) are) reached.heights are
    (rw c.in-Some.is at c.in_ok-reach.ensures.small)
    (λ less. absurd (omega (arith, less, c.if-i-later.true))) in
    let whole = IsGrowing-whole board root growing start rests (i + 1) (c.loop-i.growth + c.in-Some.reach)
    s.goals last (omega (arith, c.if-i-later.true)) in
    subst (λ (reach : ℕ). GrowOver board root growing start (c.loop-i.growth + reach))
    (sym c.from-growth-in-loop-i.ensures) whole

pub loop-i-preserved : goal.loop-i-preserved
loop-i-preserved c =
    let board = board_of c.args.graph.now in
    let root = c.args.root in
    let growing = c.args.first ∷ c.args.later.now in
    let i = suc c.loop-i.i in
    let below : i < length growing = omega (arith, c.loop-i-test.true) in
    let s = c.reach_from.new.search in
    let start = arcs_of c.args.up.now.items c.args.down.now.items in
    let rests = arcs_of c.loop-i.up.items c.loop-i.down.items in
    let new = arcs_of c.wear-in-loop-i.new.up.items c.wear-in-loop-i.new.down.items in
    let are = goals-after root growing i below c.loop-i.search.goals s.goals c.requires.distinct
    c.loop-i.invariant.0.goals_are (c.reach_from.ensures.goals ∙ c.remove_goal.ensures.goals) in
    let reached = subst (λ (xs : List ℕ). HasReached board (arcs_of xs c.loop-i.down.items)
    (get_or growing i 0) s c.in-Some.reach) c.deref.ensures.value
    (subst (λ (ys : List ℕ). HasReached board (arcs_of c.deref.result.now ys) (get_or growing i 0) s
    c.in-Some.reach) c.deref-in-loop-i.ensures.value
    (rw c.in-Some.is at c.in_ok-reach.ensures.reached)) in
    let more = IsGrowing-more root growing i below board start rests new (height_in s c.in-Some.reach)
    c.loop-i.search.goals s.goals c.loop-i.growth c.in-Some.reach c.loop-i.invariant.0
    (reached.reaches (root ∷ drop (i + 1) growing) are) reached.heights are
    (rw c.in-Some.is at c.in_ok-reach.ensures.small) (λ less. c.in_ok-wear-2.ensures.worn) in
    let next : i + 1 ≡ suc (c.loop-i.i + 1) = omega arith in (
      subst (λ (k : ℕ). IsGrowing board root growing start k
          (c.loop-i.growth + c.from-growth-in-loop-i.result) new s.goals) next
          (subst (λ (reach : ℕ). IsGrowing board root growing start (i + 1) (c.loop-i.growth + reach) new
          s.goals) (sym c.from-growth-in-loop-i.ensures) more),
      c.wear-in-loop-i.ensures.up ∙ c.loop-i.invariant.1,
      c.wear-in-loop-i.ensures.down ∙ c.loop-i.invariant.2,
      omega (
        arith,
        c.reach_from.ensures.labels,
        ap length c.remove_goal.ensures.labels,
        c.loop-i.invariant.3,
      ),
      omega (
        arith,
        ap length c.reach_from.ensures.goals,
        ap length c.remove_goal.ensures.goals,
        length-set c.loop-i.search.goals (get_or growing i 0) false,
        c.loop-i.invariant.4,
      ),
      λ lengths are. c.wear-in-loop-i.ensures.listed lengths (c.loop-i.invariant.5 lengths are),
      c.wear-in-loop-i.ensures.worn_limit ∙ c.loop-i.invariant.6,
      c.wear-in-loop-i.ensures.near_limit ∙ c.loop-i.invariant.7,
    )

pub returns-clause-grown : goal.returns-clause-grown
returns-clause-grown c =
    IsGrowing-whole (board_of c.args.graph.now) c.args.root (c.args.first ∷ c.args.later.now)
    (arcs_of c.args.up.now.items c.args.down.now.items) (arcs_of c.loop-i.up.items c.loop-i.down.items)
    (suc c.loop-i.i) c.loop-i.growth c.loop-i.search.goals c.loop-i.invariant.0
    (omega (arith, c.loop-i-test.false))

pub returns-in_err-wear-clause-among : goal.returns-in_err-wear-clause-among
returns-in_err-wear-clause-among c =
    goals-among c.args.root (c.args.first ∷ c.args.later.now) 1 c.args.search.now.goals c.requires.marked

pub returns-in_err-reach-clause-among : goal.returns-in_err-reach-clause-among
returns-in_err-reach-clause-among c =
    let root = c.args.root in
    let growing = c.args.first ∷ c.args.later.now in
    let i = suc c.loop-i.i in
    let goals = c.reach_from.new.search.goals in
    goals-among root growing (i + 1) goals (goals-after root growing i (omega (arith, c.loop-i-test.true))
    c.loop-i.search.goals goals c.requires.distinct c.loop-i.invariant.0.goals_are
    (c.reach_from.ensures.goals ∙ c.remove_goal.ensures.goals))

pub returns-in_default-clause-among : goal.returns-in_default-clause-among
returns-in_default-clause-among c =
    let root = c.args.root in
    let growing = c.args.first ∷ c.args.later.now in
    let i = suc c.loop-i.i in
    let goals = c.reach_from.new.search.goals in
    goals-among root growing (i + 1) goals (goals-after root growing i (omega (arith, c.loop-i-test.true))
    c.loop-i.search.goals goals c.requires.distinct c.loop-i.invariant.0.goals_are
    (c.reach_from.ensures.goals ∙ c.remove_goal.ensures.goals))

pub returns-then-i-later-clause-among : goal.returns-then-i-later-clause-among
returns-then-i-later-clause-among c =
    let root = c.args.root in
    let growing = c.args.first ∷ c.args.later.now in
    let i = suc c.loop-i.i in
    let goals = c.reach_from.new.search.goals in
    goals-among root growing (i + 1) goals (goals-after root growing i (omega (arith, c.loop-i-test.true))
    c.loop-i.search.goals goals c.requires.distinct c.loop-i.invariant.0.goals_are
    (c.reach_from.ensures.goals ∙ c.remove_goal.ensures.goals))

pub returns-in_err-wear-2-clause-among : goal.returns-in_err-wear-2-clause-among
returns-in_err-wear-2-clause-among c =
    let root = c.args.root in
    let growing = c.args.first ∷ c.args.later.now in
    let i = suc c.loop-i.i in
    let goals = c.reach_from.new.search.goals in
    goals-among root growing (i + 1) goals (goals-after root growing i (omega (arith, c.loop-i-test.true))
    c.loop-i.search.goals goals c.requires.distinct c.loop-i.invariant.0.goals_are
    (c.reach_from.ensures.goals ∙ c.remove_goal.ensures.goals))

pub wear-requires-in-loop-i-clause-heights : goal.wear-requires-in-loop-i-clause-heights
wear-requires-in-loop-i-clause-heights c =
    let board = board_of c.args.graph.now in
    let x = get_or c.args.later.now c.loop-i.i 0 in
    let s = c.reach_from.new.search in
    (subst (λ (xs : List ℕ). HasReached board (arcs_of xs c.loop-i.down.items) x s c.in-Some.reach)
    c.deref.ensures.value
    (subst (λ (ys : List ℕ). HasReached board (arcs_of c.deref.result.now ys) x s c.in-Some.reach)
    c.deref-in-loop-i.ensures.value (rw c.in-Some.is at c.in_ok-reach.ensures.reached))).heights
