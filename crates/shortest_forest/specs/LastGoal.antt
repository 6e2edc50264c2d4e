-- A search that ends at its nearest goal: what is farther than a goal with a label is left out.
use Rattle.std.specs.Prelude.{◌≡◌, ℕ, ◌<◌, ◌≤◌, ◌⊎◌}
use Rattle.tdm_problem.specs.Board.{Board}
use Rattle.shortest_forest.specs.Arcs.{Arcs, IsGoal}
use Rattle.shortest_forest.specs.Labels.{Labels, IsAtLabel, IsUnderWay, IsNearest, AreFar}

-- the limit is the cap, or a goal has a label below it
abbrev pub IsLimited : (cap limit : ℕ) → Labels → Type 0
IsLimited cap limit s = (limit ≡ cap)
    ⊎ ((g : ℕ) × IsGoal s.goals g × ((d : ℕ) × IsAtLabel s g d × (d < limit)))

-- the search has ended at its nearest goal, with all labels below some limit that the goal is below
pub record EndsAt (board : Board) (arcs : Arcs) (cap : ℕ) (s : Labels) (goal : ℕ) : Type 0 where
  pub limit : ℕ
  pub within : limit ≤ cap
  pub under_way : IsUnderWay board arcs (λ _. 0) limit s
  pub nearest : IsNearest board arcs (λ _. 0) limit s goal

-- the search has ended at the cap, and no goal is nearer
pub record EndsFar (board : Board) (arcs : Arcs) (cap : ℕ) (s : Labels) : Type 0 where
  pub under_way : IsUnderWay board arcs (λ _. 0) cap s
  pub far : AreFar board arcs (λ _. 0) cap s
