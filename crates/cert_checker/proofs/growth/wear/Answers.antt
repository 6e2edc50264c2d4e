use Rattle.std.proofs.Common.{◌∙◌, sym}
use Rattle.board_graph.specs.Graph.{board_of}
use Rattle.cert_checker.specs.Growing.{arcs_of, height_in}
use Rattle.cert_checker.proofs.MarkedListLaws.{longer-contains, past-end}
use Rattle.cert_checker.proofs.Wearing.{AreWorn-more, IsWorn-all}
use Rattle.cert_checker.proofs.growth.wear.Goals as goal

pub loop-f-preserved : goal.loop-f-preserved
loop-f-preserved c = (
  AreWorn-more (board_of c.args.graph.now) (height_in c.args.search.now c.args.reach) c.loop-f.near.listed
      c.wear_at.new.near.listed c.loop-f.i c.in-Some.f
      (arcs_of c.args.up.now.items c.args.down.now.items) (arcs_of c.loop-f.up.items c.loop-f.down.items)
      (arcs_of c.wear_at.new.up.items c.wear_at.new.down.items)
      (sym c.get.ensures.value ∙ c.in-Some.is) c.get.ensures.distinct c.wear_at.ensures.longer
      c.loop-f.invariant.0 c.in_ok-wear_at.ensures.worn c.in_ok-wear_at.ensures.near,
  longer-contains c.loop-f.near.listed c.wear_at.new.near.listed c.args.x c.wear_at.ensures.longer
      c.loop-f.invariant.1,
  c.wear_at.ensures.up ∙ c.loop-f.invariant.2,
  c.wear_at.ensures.down ∙ c.loop-f.invariant.3,
  λ lengths are. c.wear_at.ensures.listed lengths (c.loop-f.invariant.4 lengths are),
  c.wear_at.ensures.worn_limit ∙ c.loop-f.invariant.5,
  c.wear_at.ensures.near_limit ∙ c.loop-f.invariant.6,
)

pub returns-clause-worn : goal.returns-clause-worn
returns-clause-worn c = IsWorn-all (board_of c.args.graph.now) (height_in c.args.search.now c.args.reach)
    c.loop-f.near.listed c.loop-f.i c.args.x c.args.reach
    (arcs_of c.args.up.now.items c.args.down.now.items) (arcs_of c.loop-f.up.items c.loop-f.down.items)
    c.loop-f.invariant.0
    (past-end c.loop-f.near.listed c.loop-f.i (sym c.get.ensures.value ∙ c.in_default.is))
    c.loop-f.invariant.1 c.requires.heights
