-- A way back, turned round, is a walk over the arcs.
use Rattle.std.proofs.Common.{◌≡◌, ℕ, ◌+◌, ◌≤◌, List, [], ◌∷◌, ◌++◌, Some, None, refl, sym, subst, arith}
use Rattle.std.specs.Prelude.{reverse}
use Rattle.std.proofs.lemmas.List.{reverse-append}
use Rattle.tdm_problem.specs.Board.{Board}
use Rattle.tdm_problem.specs.Walk.{Links}
use Rattle.tdm_problem.proofs.Walks.{Links-sym}
use Rattle.shortest_forest.specs.Arcs.{Arcs, IsArcWalk, IsLowerBound}
use Rattle.shortest_forest.specs.Labels.{Labels, IsAtLabel, IsWayBack, IsLabelled, IsNearest}
use Rattle.shortest_forest.proofs.UnderWay.{distance_unique}
use Rattle.shortest_forest.proofs.WayLaws.{way_back-source}

module _ (board : Board) (arcs : Arcs) where
  -- a walk goes on by one wire
  pub arc_walk-on : (a : ℕ) (es : List ℕ) (b total e c : ℕ) → IsArcWalk board arcs a es b total
      → Links board e b c → IsArcWalk board arcs a (es ++ e ∷ []) c (total + arcs e b c)
  arc_walk-on a [] b total e c walk links =
      let P : ℕ → Type 0 = λ x. IsArcWalk board arcs x (e ∷ []) c (total + arcs e b c) in
      let one : IsArcWalk board arcs b (e ∷ []) c (total + arcs e b c) =
      (c, links, (0, (refl, refl), omega (arith, walk.1))) in
      subst P (sym walk.0) one
  arc_walk-on a (x ∷ es) b total e c walk links = (
    walk.0,
    walk.1,
    (
      walk.2.0 + arcs e b c,
      arc_walk-on walk.0 es b walk.2.0 e c walk.2.1 links,
      omega (arith, walk.2.2),
    ),
  )

  module _ (s : Labels) (labelled : IsLabelled board arcs s) where
    pub way-law : (f distance : ℕ) (es : List ℕ) (source : ℕ) → IsAtLabel s f distance
        → IsWayBack board s f es source
        → (total : ℕ) × IsArcWalk board arcs source (reverse es) f total × (total ≤ distance)
    way-law f distance [] source at back = (0, (sym back.0, refl), omega arith)
    way-law f distance (e ∷ es) source at back =
        let u = back.2.0 in
        let same : back.0 ≡ distance = distance_unique s f back.0 distance (Some e, back.1) at in
        let near = labelled.shorter f back.0 e u back.1 back.2.1 in
        let rest = way-law u near.0 es source near.1 back.2.2 in
        let P : List ℕ → Type 0 = λ xs. IsArcWalk board arcs source xs f (rest.0 + arcs e u f) in
        let on : IsArcWalk board arcs source (reverse es ++ e ∷ []) f (rest.0 + arcs e u f) =
        arc_walk-on source (reverse es) u rest.0 e f rest.1 (Links-sym board e f u back.2.1) in (
          rest.0 + arcs e u f,
          subst P (sym (reverse-append (e ∷ []) es)) on,
          omega (arith, rest.2, near.2, same),
        )

    pub nearest-way-law : (bound : ℕ → ℕ) (cap : ℕ) → IsLowerBound board arcs s.goals bound
        → (goal : ℕ) (near : IsNearest board arcs bound cap s goal) (es : List ℕ) (source : ℕ)
        → IsWayBack board s goal es source → IsArcWalk board arcs source (reverse es) goal near.distance
    nearest-way-law bound cap lower goal near es source back =
        let way = way-law goal near.distance es source near.label back in
        let root : IsAtLabel s source 0 = (None, way_back-source board s goal es source back) in
        let least = near.least lower source 0 (reverse es) goal way.0 root near.marked way.1 in
        let equal : way.0 ≡ near.distance = omega (arith, least, way.2) in
        let P : ℕ → Type 0 = λ total. IsArcWalk board arcs source (reverse es) goal total in
        subst P equal way.1
