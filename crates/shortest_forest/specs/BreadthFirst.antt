-- A breadth-first search that is under way.
use Rattle.std.specs.Prelude.{◌≡◌, ℕ, ◌+◌, ◌<◌, ◌≤◌, List, length, Option, Some, None, is_some, count_by, slice_index, slice_index_or, slice_set, [], ◌∷◌, ◌++◌}
use Rattle.tdm_problem.specs.Board.{Board}
use Rattle.tdm_problem.specs.Walk.{Links, IsWalk, AnyWire}
use Rattle.tdm_problem.specs.Distance.{length_of}

-- FPGA f has this distance
abbrev pub IsAt : List (Option ℕ) → ℕ → ℕ → Type 0
IsAt distances f d = slice_index_or distances f None ≡ Some d

-- no wire leads from FPGA f to one that is farther than one hop more
abbrev pub IsPassed : Board → List (Option ℕ) → ℕ → ℕ → Type 0
IsPassed board distances f d = (e x : ℕ) → Links board e f x → (far : ℕ) × IsAt distances x far
    × (far ≤ d + 1)

-- the FPGAs with a distance are queued in the order of their distances from the first, and those before the
-- head are passed
pub record IsSearch (board : Board) (distances : List (Option ℕ)) (queue : List ℕ) (head : ℕ) : Type 0 where
  pub count : length distances ≡ board.fpgas
  pub some : 0 < length queue
  pub few : length queue ≡ count_by is_some distances
  pub first : IsAt distances (slice_index queue 0) 0
  pub queued : (i : ℕ) → i < length queue → (d : ℕ) × IsAt distances (slice_index queue i) d × (d ≤ i)
  pub left : (f d : ℕ) → IsAt distances f d → (i : ℕ) × (i < length queue)
      × (slice_index queue i ≡ f) × (i < head → IsPassed board distances f d)
  pub near : (i f d far : ℕ) → head ≤ i → i < length queue → IsAt distances (slice_index queue i) d
      → IsAt distances f far → far ≤ d + 1
  pub rising : (i j d far : ℕ) → head ≤ i → i ≤ j → j < length queue
      → IsAt distances (slice_index queue i) d → IsAt distances (slice_index queue j) far → d ≤ far
  pub walks : (f d : ℕ) → IsAt distances f d → (es : List ℕ)
      × IsWalk board (AnyWire board) (slice_index queue 0) es f × (length_of (λ _. 1) es ≡ d)

-- FPGA f gets a distance and is queued, unless it has a distance
pub record IsReached (f distance : ℕ) (distances distances' : List (Option ℕ))
    (queue queue' : List ℕ) : Type 0 where
  pub known : (d : ℕ) → IsAt distances f d → (distances' ≡ distances) × (queue' ≡ queue)
  pub new : slice_index_or distances f None ≡ None
      → (distances' ≡ slice_set distances f (Some distance)) × (queue' ≡ queue ++ f ∷ [])

-- wire e leads from FPGA f to one of distance d, one less than that of f
abbrev pub LeadsNearer : Board → List (Option ℕ) → ℕ → ℕ → ℕ → Type 0
LeadsNearer board distances f e d = (u : ℕ) × Links board e f u × IsAt distances u d
    × IsAt distances f (d + 1)

-- wire e leads from FPGA f to one of a distance that is one less, and no wire of a smaller number does
pub record IsFirstNearer (board : Board) (distances : List (Option ℕ)) (f e : ℕ) : Type 0 where
  pub nearer : (d : ℕ) × LeadsNearer board distances f e d
  pub least : (x d : ℕ) → LeadsNearer board distances f x d → e ≤ x
