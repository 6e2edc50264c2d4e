-- A limit that falls to the labels of goals.
use Rattle.std.proofs.Common.{◌≡◌, ℕ, ◌+◌, ◌<◌, ◌≤◌, ◌⊎◌, Bool, List, [], Option, length, get_or, refl, sym, subst, inl, inr, arith}
use Rattle.tdm_problem.specs.Board.{Board}
use Rattle.tdm_problem.specs.Walk.{Links}
use Rattle.board_graph.specs.declared.neighbour.Neighbour.{Neighbour}
use Rattle.board_graph.specs.Graph.{Graph, board_of}
use Rattle.board_graph.specs.Neighbours.{neighbours_of}
use Rattle.shortest_forest.specs.declared.label.Label.{Label}
use Rattle.shortest_forest.specs.Arcs.{Arcs, IsGoal}
use Rattle.shortest_forest.specs.Labels.{Labels, IsAtLabel, IsNoShorter, IsTaken, IsUnderWay, IsReached, AreFar}
use Rattle.shortest_forest.specs.LastGoal.{IsLimited, EndsFar}
use Rattle.shortest_forest.proofs.UnderWay.{no_shorter-falls, waits_or_settled-falls}
use Rattle.shortest_forest.proofs.Passing.{IsStep, IsPassingOn, IsPassingOn-more, step_reached}

-- what was passed below a cap was passed below a smaller one
pub IsPassingOn-falls : (graph : Graph) (arcs : Arcs) (cap cap' f d k : ℕ) (old s : Labels) → cap' ≤ cap
    → IsPassingOn graph arcs (λ _. 0) cap f d k old s → IsPassingOn graph arcs (λ _. 0) cap' f d k old s
IsPassingOn-falls graph arcs cap cap' f d k old s falls was = record {
  passing = record {
    labelled = was.passing.labelled;
    here = was.passing.here;
    no_goal = was.passing.no_goal;
    others = λ x distance other at. waits_or_settled-falls (board_of graph) arcs (λ _. 0) (λ _. 0) cap cap' s
        (λ _. omega arith) falls x distance (was.passing.others x distance other at);
  };
  on = was.on;
  done = λ j z before. no_shorter-falls s (λ _. 0) (λ _. 0) cap cap' _ _ (omega arith) falls
      (was.done j z before);
}

module _ (board : Board) (arcs : Arcs) (limit f d v far : ℕ) (old new : Labels)
    (step : IsStep board arcs (λ _. 0) limit f d v far old new) where
  -- the label of a goal stays below the limit
  pub limited-step : (cap : ℕ) → IsLimited cap limit old → IsLimited cap limit new
  limited-step cap (inl same) = inl same
  limited-step cap (inr shown) =
      go (step.still shown.0 shown.2.0 (inl (shown.2.0, shown.2.1, omega arith)))
    where
      goal : IsGoal new.goals shown.0
      goal = subst (λ (gs : List Bool). IsGoal gs shown.0) (sym step.on.marks.goals) shown.1

      go : IsNoShorter new (λ _. 0) limit shown.0 shown.2.0 → IsLimited cap limit new
      go (inl near) = inr (shown.0, goal, (near.0, near.1, omega (arith, near.2, shown.2.2)))
      go (inr more) = absurd (omega (arith, more, shown.2.2))

  -- a goal that was reached is below the limit that it leaves
  pub limited-goal : (cap : ℕ) → IsGoal new.goals v → far < limit → IsLimited cap (far + 1) new
  limited-goal cap goal below = go step.here
    where
      go : IsNoShorter new (λ _. 0) limit v far → IsLimited cap (far + 1) new
      go (inl near) = inr (v, goal, (near.0, near.1, omega (arith, near.2)))
      go (inr more) = absurd (omega (arith, more, below))

-- the same labels and goals show the same
pub limited-taken : (key f cap limit : ℕ) (s next : Labels) → IsTaken key f s next → IsLimited cap limit s
    → IsLimited cap limit next
limited-taken key f cap limit s next taken (inl same) = inl same
limited-taken key f cap limit s next taken (inr shown) = inr (
  shown.0,
  subst (λ (gs : List Bool). IsGoal gs shown.0) (sym taken.goals) shown.1,
  (
    shown.2.0,
    subst (λ (labels : List (Option Label)). IsAtLabel (record s { labels = labels }) shown.0 shown.2.0)
        (sym taken.labels) shown.2.1,
    shown.2.2,
  ),
)

-- where no goal is nearer than the limit, the limit is the cap
pub ends-far : (board : Board) (arcs : Arcs) (cap limit : ℕ) (s : Labels)
    → IsUnderWay board arcs (λ _. 0) limit s → AreFar board arcs (λ _. 0) limit s → IsLimited cap limit s
    → EndsFar board arcs cap s
ends-far board arcs cap limit s search far (inl same) = record {
  under_way = subst (λ (n : ℕ). IsUnderWay board arcs (λ _. 0) n s) same search;
  far = subst (λ (n : ℕ). AreFar board arcs (λ _. 0) n s) same far;
}
ends-far board arcs cap limit s search far (inr shown) =
    let least = far.least (λ a bs g sum marked along. omega arith) shown.0 shown.2.0 [] shown.0 0 shown.2.1
    shown.1 (refl, refl) in
    absurd (omega (arith, least, shown.2.2))

-- ---- one arc more

module _ (graph : Graph) (arcs : Arcs) (limit f d k : ℕ) (first old new : Labels) (z : Neighbour)
    (within : k < length (neighbours_of graph f))
    (was : IsPassingOn graph arcs (λ _. 0) limit f d k first old)
    (links : Links (board_of graph) (get_or (neighbours_of graph f) k z).wire f
    (get_or (neighbours_of graph f) k z).fpga)
    (below : (get_or (neighbours_of graph f) k z).fpga < length old.labels)
    (reached : IsReached (λ _. 0) limit (get_or (neighbours_of graph f) k z).fpga
    (get_or (neighbours_of graph f) k z).wire
    (d + arcs (get_or (neighbours_of graph f) k z).wire f (get_or (neighbours_of graph f) k z).fpga) old new)
  where
    -- what the distance of the neighbour leaves of the limit
    abbrev pub Leaves : ℕ → Type 0
    Leaves left = (left ≡ limit) ⊎ (IsGoal new.goals (get_or (neighbours_of graph f) k z).fpga
        × (d + arcs (get_or (neighbours_of graph f) k z).wire f (get_or (neighbours_of graph f) k z).fpga
        < limit) × (left ≡ d + arcs (get_or (neighbours_of graph f) k z).wire f
        (get_or (neighbours_of graph f) k z).fpga + 1))

    pub leaves-less : (left : ℕ) → Leaves left → left ≤ limit
    leaves-less left (inl same) = omega (arith, same)
    leaves-less left (inr goal) = omega (arith, goal.1, goal.2)

    pub leaves-passed : (left : ℕ) → Leaves left → IsPassingOn graph arcs (λ _. 0) left f d (k + 1) first new
    leaves-passed left leaves = IsPassingOn-falls graph arcs limit left f d (k + 1) first new
        (leaves-less left leaves)
        (IsPassingOn-more graph arcs (λ _. 0) limit f d k first old new z within was links below reached)

    pub leaves-limited : (left cap : ℕ) → Leaves left → IsLimited cap limit old → IsLimited cap left new
    leaves-limited left cap leaves limited = go leaves
      where
        step : IsStep (board_of graph) arcs (λ _. 0) limit f d (get_or (neighbours_of graph f) k z).fpga
            (d + arcs (get_or (neighbours_of graph f) k z).wire f (get_or (neighbours_of graph f) k z).fpga)
            old new
        step = step_reached (board_of graph) arcs (λ _. 0) limit f d (get_or (neighbours_of graph f) k z).wire
            (get_or (neighbours_of graph f) k z).fpga old new was.passing links below reached

        go : Leaves left → IsLimited cap left new
        go (inl same) = subst (λ (n : ℕ). IsLimited cap n new) (sym same)
            (limited-step (board_of graph) arcs limit f d (get_or (neighbours_of graph f) k z).fpga _ old new
            step cap limited)
        go (inr goal) = subst (λ (n : ℕ). IsLimited cap n new) (sym goal.2)
            (limited-goal (board_of graph) arcs limit f d (get_or (neighbours_of graph f) k z).fpga _ old new
            step cap goal.0 goal.1)
