-- Growth is at most what all wires of a board are together.
use Rattle.std.proofs.Common.{ℕ, zero, suc, ◌*◌, ◌<◌, ◌≤◌, List, [], ◌∷◌, length, inl, inr, ⊎_elim, arith}
use Rattle.std.specs.Prelude.{Contains, sum_by}
use Rattle.std.proofs.lemmas.Bool.{cases_lt}
use Rattle.std.proofs.lemmas.List.Sums.{sum_by-cons}
use Rattle.tdm_problem.specs.Board.{Board}
use Rattle.tdm_problem.specs.Walk.{IsWalk, AnyWire, IsConnectable, Joins}
use Rattle.shortest_forest.specs.Arcs.{both_ways}
use Rattle.bound_cert.specs.Growth.{IsGrowth}
use Rattle.bound_cert.proofs.GrowthLaws.{growth-le_lengths}
use Rattle.bound_cert.proofs.OneGrowth.{connectable-from_growth}

-- the numbers below n
all_below : ℕ → List ℕ
all_below zero = []
all_below (suc n) = n ∷ all_below n

Contains-all_below : (n e : ℕ) → e < n → Contains (all_below n) e
unfolding all_below
Contains-all_below zero e below = absurd (omega arith)
Contains-all_below (suc n) e below = ⊎_elim (λ (less : e < n). later (Contains-all_below n e less))
    (λ (more : n ≤ e). (0, omega arith, omega (arith, below, more))) (cases_lt e n)
  where
    later : Contains (all_below n) e → Contains (n ∷ all_below n) e
    later (k, inside, is) = (suc k, omega (arith, inside), is)

sum-all_below : (n most : ℕ) (f : ℕ → ℕ) → ((e : ℕ) → e < n → f e ≤ most) → sum_by f (all_below n) ≤ n * most
unfolding all_below
sum-all_below zero most f small = omega arith
sum-all_below (suc n) most f small =
    omega (
      arith,
      sum_by-cons f n (all_below n),
      sum-all_below n most f (λ e below. small e (omega (arith, below))),
      small n (omega arith),
    )

module _ (board : Board) where
  listed-walk : (a : ℕ) (es : List ℕ) (z : ℕ) → IsWalk board (AnyWire board) a es z
      → IsWalk board (Contains (all_below (length board.wires))) a es z
  listed-walk a [] z walk = walk
  listed-walk a (e ∷ es) z walk = (
    Contains-all_below (length board.wires) e walk.0,
    (walk.1.0, walk.1.1, listed-walk walk.1.0 es z walk.1.2),
  )

  joined : (fpgas : List ℕ) → IsConnectable board fpgas
      → Joins board (Contains (all_below (length board.wires))) fpgas
  joined fpgas joins a b in_a in_b = let walk = joins a b in_a in_b in (walk.0, listed-walk a walk.0 b walk.1)

  pub growth-le_wires : (wire_length : ℕ → ℕ) (most : ℕ)
      → ((e : ℕ) → e < length board.wires → wire_length e ≤ most) →
      (fpgas : List ℕ) (growth : ℕ) → IsGrowth board wire_length fpgas growth
      → growth ≤ length board.wires * most
  growth-le_wires wire_length most small [] growth none = omega (arith, none)
  growth-le_wires wire_length most small (root ∷ growing) growth (inr none) = omega (arith, none.0)
  growth-le_wires wire_length most small (root ∷ growing) growth (inl grows) =
      let wires : List ℕ = all_below (length board.wires) in
      omega (
        arith,
        growth-le_lengths board wire_length wires (root ∷ growing) growth (inl grows)
            (joined (root ∷ growing) (connectable-from_growth board root growing (both_ways wire_length)
            growth grows)),
        sum-all_below (length board.wires) most wire_length small,
      )
