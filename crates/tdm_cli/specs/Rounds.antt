-- Rounds: the groups are weighed, the nets rerouted for these weights, and the wires shared by the roots of
-- the weights.
use Rattle.std.specs.Prelude.{◌≡◌, ℕ, suc, ◌/◌, ◌<◌, ◌≤◌, ◌⊎◌, List, [], ◌∷◌, length, map, slice_index, sum_by, replicate, All}
use Rattle.std.specs.List.{range_with_len}
use Rattle.tdm_problem.specs.Board.{Board}
use Rattle.tdm_problem.specs.Legal.{lanes_of}
use Rattle.tdm_problem.specs.Loads.{load_of}
use Rattle.tdm_problem.specs.Roots.{root_of}
use Rattle.tdm_problem.specs.Routing.{Routing}
use Rattle.tdm_problem.specs.Value.{group_sum, value_of}
use Rattle.tdm_problem.specs.Weights.{net_weight}
use Rattle.group_multipliers.specs.Renewal.{renewed}
use Rattle.even_legalise.specs.Shared.{shared_routing}
use Rattle.bound_cert.specs.declared.certificate.CertKind.TheVariants.{Share}
use Rattle.bound_cert.specs.Bound.{IsBound}
use Rattle.bound_cert.specs.Limits.{uniform_weight}
use Rattle.bound_cert.specs.Makers.{growing_cert}
use Rattle.bound_cert.specs.Weighted.{IsShareBound}
use Rattle.ripup_reroute.specs.Turns.{ArePasses}
use Rattle.tdm_cli.specs.Baseline.{most_uses}

-- a round: the weights of the groups, the numbers of the nets, and the trees that it leads to
pub record Round : Type 0 where
  pub weights : List ℕ
  pub numbers : List ℕ
  pub trees : List (List ℕ)

-- the number of each net is the whole root of its weight
pub record AreRoots (board : Board) (weights numbers : List ℕ) : Type 0 where
  pub count : length numbers ≡ length board.nets
  pub each : (n : ℕ) → n < length board.nets
      → slice_index numbers n ≡ root_of (net_weight board.groups weights n)

-- the round begins at these trees: its numbers are the roots of the weights of the nets, and four passes over
-- all nets in order lead to its trees
pub record Reroutes (board : Board) (before : List (List ℕ)) (round : Round) : Type 0 where
  pub roots : AreRoots board round.weights round.numbers
  pub passes : ArePasses board round.numbers (range_with_len 0 (length board.nets)) 4 before round.trees

-- the trees of the round have no more wires together than `route` may write uses
abbrev pub FitsUses : Round → Type 0
FitsUses round = sum_by length round.trees ≤ most_uses

-- the solution that shares give after the round
abbrev pub solution_of_round : Board → Round → Routing
solution_of_round board round = shared_routing board round.trees round.numbers

-- the value of the round
abbrev pub round_value : Board → Round → ℕ
round_value board round = value_of board (solution_of_round board round)

-- the length of wire e after the round: its load for each of its lanes, rounded down
abbrev pub round_length : Board → Round → (e : ℕ) → ℕ
round_length board round e = load_of round.trees round.numbers e / lanes_of board e

-- the lengths of all wires after the round
abbrev pub round_lengths : Board → Round → List ℕ
round_lengths board round = map (round_length board round) (range_with_len 0 (length board.wires))

-- the number is the bound of the round
abbrev pub IsRoundBound : Board → Round → (bound : ℕ) → Type 0
IsRoundBound board round bound = IsShareBound board round.weights (round_length board round) bound

-- the number is the bound by growth of the round, with the same weights and lengths
abbrev pub IsRoundGrowthBound : Board → Round → (bound : ℕ) → Type 0
IsRoundGrowthBound board round bound =
    IsBound board (growing_cert board Share round.weights (round_lengths board round)) bound

-- the weights of the round after this one
abbrev pub next_of : Board → Round → List ℕ
next_of board round = renewed round.weights (map (group_sum (solution_of_round board round)) board.groups)

-- rounds that follow one another from these weights and trees: so many, or up to the first that does not fit
pub data AreRounds (board : Board) : (left : ℕ) (weights : List ℕ) (before : List (List ℕ))
    (rounds : List Round) → Type 0 where
  done : (weights : List ℕ) (before : List (List ℕ)) → AreRounds board 0 weights before []
  stops : (left : ℕ) (before : List (List ℕ)) (round : Round) → Reroutes board before round → ¬ FitsUses round
      → AreRounds board (suc left) round.weights before (round ∷ [])
  goes_on : (left : ℕ) (before : List (List ℕ)) (round : Round) (rounds : List Round)
      → Reroutes board before round
      → FitsUses round → AreRounds board left (next_of board round) round.trees rounds
      → AreRounds board (suc left) round.weights before (round ∷ rounds)

-- the weights of the first round: the same for each group
abbrev pub first_weights : Board → List ℕ
first_weights board = replicate (length board.groups) uniform_weight

-- a list of so many rounds: from the first weights and these trees
abbrev pub IsRoundList : Board → (baseline : List (List ℕ)) → (count : ℕ) → List Round → Type 0
IsRoundList board baseline count rounds = AreRounds board count (first_weights board) baseline rounds

-- the value is at most that of the round and the bound at least its bound, where it fits
pub record IsMet (board : Board) (value bound : ℕ) (round : Round) : Type 0 where
  pub no_worse : FitsUses round → value ≤ round_value board round
  pub no_weaker : FitsUses round → (other : ℕ) → IsRoundBound board round other → other ≤ bound

-- of the rounds this is the last that fits
abbrev pub IsLastFit : List Round → (last : Round) → Type 0
IsLastFit [] last = ⊥
IsLastFit (round ∷ after) last = ((last ≡ round) × FitsUses round × All (λ r. ¬ FitsUses r) after)
    ⊎ IsLastFit after last

-- there is a list of so many rounds, the same for both, of whose rounds that fit none has a smaller value or
-- a larger bound; and the bound is at least the bound by growth of the last of them
pub record MeetsRounds (board : Board) (baseline : List (List ℕ)) (count value bound : ℕ) : Type 0 where
  pub rounds : List Round
  pub list : IsRoundList board baseline count rounds
  pub met : All (IsMet board value bound) rounds
  pub grown : (last : Round) → IsLastFit rounds last → (other : ℕ) → IsRoundGrowthBound board last other
      → other ≤ bound
