use Rattle.std.proofs.Common.{◌≡◌, ◌-◌, ◌<◌, List, ℕ, length, get_or, sym, ap, ◌∙◌, subst, arith}
use Rattle.std.specs.Prelude.{Contains}
use Rattle.tdm_problem.proofs.Walks.{AnyWire-from_links}
use Rattle.board_graph.specs.declared.neighbour.Neighbour.{Neighbour}
use Rattle.board_graph.specs.Graph.{board_of}
use Rattle.cert_checker.specs.Growing.{arcs_of, height_in, IsTakenOff}
use Rattle.cert_checker.proofs.Wearing.{nowhere, neighbour-links, ends-of, IsWearing-more, IsNearing-more, IsWornAt-all, HasNear-all}
use Rattle.cert_checker.proofs.MarkedListLaws.{longer-trans}
use Rattle.cert_checker.proofs.growth.wear_at.Goals as goal

pub height-there-requires : goal.height-there-requires
height-there-requires c =
    let links = neighbour-links c.args.graph.now c.args.f c.loop-x.x-index c.neighbours-x-items.result.now
    c.neighbours-x-items.ensures.exact (omega (arith, c.loop-x-test.true)) in
    omega (arith, (ends-of c.args.graph.now c.requires.graph _ _ _ links).1, c.requires.labels)

pub wear_wire-requires-clause-up : goal.wear_wire-requires-clause-up
wear_wire-requires-clause-up c =
    let links = neighbour-links c.args.graph.now c.args.f c.loop-x.x-index c.neighbours-x-items.result.now
    c.neighbours-x-items.ensures.exact (omega (arith, c.loop-x-test.true)) in
    omega (
      arith,
      AnyWire-from_links (board_of c.args.graph.now) _ _ _ links,
      c.requires.up,
      c.loop-x.invariant.1,
    )

pub wear_wire-requires-clause-down : goal.wear_wire-requires-clause-down
wear_wire-requires-clause-down c =
    let links = neighbour-links c.args.graph.now c.args.f c.loop-x.x-index c.neighbours-x-items.result.now
    c.neighbours-x-items.ensures.exact (omega (arith, c.loop-x-test.true)) in
    omega (
      arith,
      AnyWire-from_links (board_of c.args.graph.now) _ _ _ links,
      c.requires.down,
      c.loop-x.invariant.2,
    )

pub wear_wire-requires-clause-differ : goal.wear_wire-requires-clause-differ
wear_wire-requires-clause-differ c =
    (ends-of c.args.graph.now c.requires.graph _ _ _ (neighbour-links c.args.graph.now c.args.f
    c.loop-x.x-index c.neighbours-x-items.result.now c.neighbours-x-items.ensures.exact
    (omega (arith, c.loop-x-test.true)))).2

pub list_near-requires : goal.list_near-requires
list_near-requires c =
    let links = neighbour-links c.args.graph.now c.args.f c.loop-x.x-index c.neighbours-x-items.result.now
    c.neighbours-x-items.ensures.exact (omega (arith, c.loop-x-test.true)) in
    omega (
      arith,
      (ends-of c.args.graph.now c.requires.graph _ _ _ links).1,
      c.requires.near_limit,
      c.loop-x.invariant.5,
    )

pub loop-x-preserved : goal.loop-x-preserved
loop-x-preserved c =
    let graph = c.args.graph.now in
    let k = c.loop-x.x-index in
    let row = c.neighbours-x-items.result.now in
    let x = get_or row k nowhere in
    let heights = height_in c.args.search.now c.args.reach in
    let mid = arcs_of c.loop-x.up.items c.loop-x.down.items in
    let new = arcs_of c.wear_wire.new.up.items c.wear_wire.new.down.items in
    let fall : c.saturating_sub-fall.result ≡ heights c.args.f - heights x.fpga =
    omega (arith, c.saturating_sub-fall.ensures, c.height-here.ensures, c.height-there.ensures) in
    let taken : IsTakenOff x.wire c.args.f x.fpga (heights c.args.f - heights x.fpga) mid new =
    subst (λ (n : ℕ). IsTakenOff x.wire c.args.f x.fpga n mid new) fall c.in_ok-wear_wire.ensures.taken in
    let is = ap (λ (xs : List Neighbour). get_or xs k nowhere) (sym c.neighbours-x-items.ensures.exact) in
    let there : 0 < heights x.fpga → Contains c.list_near.new.near.listed x.fpga =
    λ high. c.in_ok-list_near.ensures.there (omega (arith, high, c.height-there.ensures)) in (
      IsWearing-more graph c.args.f heights k (arcs_of c.args.up.now.items c.args.down.now.items) mid new x
          (omega (arith, c.loop-x-test.true, ap length c.neighbours-x-items.ensures.exact)) is
          c.loop-x.invariant.0 taken,
      c.wear_wire.ensures.up ∙ c.loop-x.invariant.1,
      c.wear_wire.ensures.down ∙ c.loop-x.invariant.2,
      λ lengths are. c.wear_wire.ensures.listed lengths (c.loop-x.invariant.3 lengths are),
      c.wear_wire.ensures.limit ∙ c.loop-x.invariant.4,
      c.list_near.ensures.limit ∙ c.loop-x.invariant.5,
      longer-trans c.args.near.now.listed c.loop-x.near.listed c.list_near.new.near.listed
          c.loop-x.invariant.6 c.list_near.ensures.longer,
      IsNearing-more graph c.args.f heights k c.loop-x.near.listed c.list_near.new.near.listed x is
          c.list_near.ensures.longer there c.loop-x.invariant.7,
    )

pub returns-clause-near : goal.returns-clause-near
returns-clause-near c = HasNear-all c.args.graph.now c.args.f (height_in c.args.search.now c.args.reach)
    c.loop-x.x-index c.loop-x.near.listed
    (omega (arith, c.loop-x-test.false, ap length c.neighbours-x-items.ensures.exact)) c.loop-x.invariant.7

pub returns-clause-worn : goal.returns-clause-worn
returns-clause-worn c = IsWornAt-all c.args.graph.now c.args.f (height_in c.args.search.now c.args.reach)
    c.loop-x.x-index (arcs_of c.args.up.now.items c.args.down.now.items)
    (arcs_of c.loop-x.up.items c.loop-x.down.items)
    (omega (arith, c.loop-x-test.false, ap length c.neighbours-x-items.ensures.exact)) c.loop-x.invariant.0
