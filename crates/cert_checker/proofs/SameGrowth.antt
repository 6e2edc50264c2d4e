-- Growth depends on the wires of a board alone.
use Rattle.std.proofs.Common.{◌≡◌, ℕ, ◌+◌, ◌⊎◌, List, [], ◌∷◌, sym, inl, inr}
use Rattle.tdm_problem.specs.Board.{Board}
use Rattle.shortest_forest.specs.Arcs.{Arcs, IsArcWalk, both_ways}
use Rattle.shortest_forest.proofs.SameBoard.{Links-same, IsConnectable-same}
use Rattle.bound_cert.specs.Growth.{IsReach, IsHeight, worn, GrowOver, IsGrowth}

module _ (b c : Board) (same : b.wires ≡ c.wires) where
  arc_walk-same : (arcs : Arcs) (a : ℕ) (es : List ℕ) (z total : ℕ) → IsArcWalk b arcs a es z total
      → IsArcWalk c arcs a es z total
  arc_walk-same arcs a [] z total walk = walk
  arc_walk-same arcs a (e ∷ es) z total walk = (
    walk.0,
    Links-same b c same e a walk.0 walk.1,
    (walk.2.0, arc_walk-same arcs walk.0 es z walk.2.0 walk.2.1, walk.2.2),
  )

module _ (b c : Board) (same : b.wires ≡ c.wires) where
  reach-same : (rests : Arcs) (x : ℕ) (live : List ℕ) (reach : ℕ) → IsReach b rests x live reach
      → IsReach c rests x live reach
  reach-same rests x live reach is = record {
    nearest = is.nearest;
    listed = is.listed;
    way = (is.way.0, arc_walk-same b c same rests x is.way.0 is.nearest reach is.way.1);
    least = λ f es total listed walk. is.least f es total listed
        (arc_walk-same c b (sym same) rests x es f total walk);
  }

  height-same : (rests : Arcs) (x reach f height : ℕ) → IsHeight b rests x reach f height
      → IsHeight c rests x reach f height
  height-same rests x reach f height is = record {
    enough = λ es total walk. is.enough es total (arc_walk-same c b (sym same) rests x es f total walk);
    exact = go is.exact;
  }
    where
      go : (height ≡ 0) ⊎ ((es : List ℕ) × ((total : ℕ) × IsArcWalk b rests x es f total
          × (height + total ≡ reach)))
          → (height ≡ 0) ⊎ ((es : List ℕ) × ((total : ℕ) × IsArcWalk c rests x es f total
          × (height + total ≡ reach)))
      go (inl low) = inl low
      go (inr (es, (total, walk, at))) = inr (es, (total, arc_walk-same b c same rests x es f total walk, at))

  grow_over-same : (root : ℕ) (growing : List ℕ) (rests : Arcs) (growth : ℕ)
      → GrowOver b root growing rests growth → GrowOver c root growing rests growth
  grow_over-same root [] rests growth none = none
  grow_over-same root (x ∷ more) rests growth (reach, is_reach, (heights, are, (rest, grows, is))) = (
    reach,
    reach-same rests x (root ∷ more) reach is_reach,
    (
      heights,
      λ f. height-same rests x reach f (heights f) (are f),
      (rest, grow_over-same root more (worn rests heights) rest grows, is),
    ),
  )

  pub growth-same : (wire_length : ℕ → ℕ) (fpgas : List ℕ) (growth : ℕ) → IsGrowth b wire_length fpgas growth
      → IsGrowth c wire_length fpgas growth
  growth-same wire_length [] growth none = none
  growth-same wire_length (root ∷ growing) growth (inl grows) =
      inl (grow_over-same root growing (both_ways wire_length) growth grows)
  growth-same wire_length (root ∷ growing) growth (inr none) =
      inr (none.0, λ joins. none.1 (IsConnectable-same c b (sym same) (root ∷ growing) joins))
