-- A search that has settled all that walks from its root lead to.
use Rattle.std.specs.Prelude.{◌≡◌, ℕ, ◌+◌, ◌≤◌}
use Rattle.tdm_problem.specs.Board.{Board}
use Rattle.tdm_problem.specs.Walk.{Links}
use Rattle.shortest_forest.specs.Arcs.{both_ways}
use Rattle.shortest_forest.specs.Labels.{Labels, IsAtLabel, IsSource, IsLabelled}

-- the root is the only source, and each wire from a label leads to one that is longer by the wire, at most
pub record IsAllSettled (board : Board) (wire_length : ℕ → ℕ) (root : ℕ) (s : Labels) : Type 0 where
  pub labelled : IsLabelled board (both_ways wire_length) s
  pub root_source : IsSource s root
  pub only_source : (f : ℕ) → IsSource s f → f ≡ root
  pub onward : (f d e v : ℕ) → IsAtLabel s f d → Links board e f v
      → (near : ℕ) × IsAtLabel s v near × (near ≤ d + wire_length e)
