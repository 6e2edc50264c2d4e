use Rattle.std.specs.Prelude.{ℕ, ◌<◌, List, All, Contains}
use Rattle.tdm_problem.specs.Board.{Board}
use Rattle.tdm_problem.specs.Walk.{Links}
use Rattle.solution_eval.specs.declared.flood.Step.{Step}

-- the steps are those along the wires, both ways
pub record AreSteps (board : Board) (wires : List ℕ) (steps : List Step) : Type 0 where
  pub along : All (λ (s : Step). (e : ℕ) × Contains wires e × Links board e s.from s.to) steps
  pub whole : (e a b : ℕ) → Contains wires e → Links board e a b
      → Contains steps (record { from = a; to = b })
  pub below : All (λ (s : Step). s.to < board.fpgas) steps
