use Rattle.std.specs.Prelude.{◌≡◌, ℕ, ◌≤◌, length}
use Rattle.tdm_problem.specs.Routing.{Routing, uses_of, wires_of}
use Rattle.tdm_problem.specs.Tight.{ratio_at}

-- each net uses the same wires, with ratios that are not above the old
pub record IsLowered (old new : Routing) : Type 0 where
  pub nets : length new ≡ length old
  pub wires : (n : ℕ) → wires_of (uses_of new n) ≡ wires_of (uses_of old n)
  pub ratios : (n place : ℕ) → ratio_at new n place ≤ ratio_at old n place
