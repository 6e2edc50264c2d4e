-- Trees that are grown from one terminal after another.
use Rattle.std.proofs.Common.{◌≡◌, ℕ, ◌+◌, ◌-◌, ◌^◌, ◌<◌, ◌≤◌, List, get_or, sym, ap, subst, ⊎_elim, arith}
use Rattle.std.specs.Prelude.{slice_index, length, Option, Some, None, Result, Ok, Err, All, IfOk, IfSome, IfNone}
use Rattle.std.specs.List.Sorted.{IsStrictlyIncreasing}
use Rattle.std.specs.Option.{unwrap_or}
use Rattle.std.specs.declared.alloc.AllocError.{AllocError}
use Rattle.std.proofs.lemmas.Bool.{cases_eq}
use Rattle.tdm_problem.specs.Board.{Board}
use Rattle.tdm_problem.specs.Distance.{length_of}
use Rattle.tdm_problem.specs.Walk.{IsConnectable, IsMinimalTree}
use Rattle.board_graph.specs.Graph.{Graph, graph_of, board_of}
use Rattle.steiner_build.specs.Building.{IsWithinWalks}
use Rattle.ripup_reroute.specs.Working.{IsGrown, IsGrowth}

-- trees have grown from the first terminals: the best so far is this long
pub record IsGrowing (graph : Graph) (wire_length : ℕ → ℕ) (terminals : List ℕ) (cap i least : ℕ)
    (wires : List ℕ) : Type 0 where
  pub capped : least ≤ cap
  pub tree : least < cap → IsGrown graph wire_length terminals wires least
  pub within : 0 < i → IsWithinWalks (board_of graph) wire_length (slice_index terminals 0) terminals least
  pub apart : 0 < i → least ≡ cap → 2 ^ 64 - 2 ^ 51 ≤ cap → (board : Board) → graph ≡ graph_of board
      → ¬ IsConnectable board terminals

module _ (graph : Graph) (wire_length : ℕ → ℕ) (terminals : List ℕ) (cap : ℕ) where
  pub growing-none : (wires : List ℕ) → IsGrowing graph wire_length terminals cap 0 cap wires
  growing-none wires = record {
    capped = omega arith;
    tree = λ below. absurd (omega (arith, below));
    within = λ some. absurd (omega (arith, some));
    apart = λ some. absurd (omega (arith, some));
  }

  module _ (i least : ℕ) (wires : List ℕ)
      (so_far : IsGrowing graph wire_length terminals cap i least wires) where
    -- a tree is better
    pub growing-better : (total : ℕ) (new : List ℕ)
        → IsGrowth graph wire_length (get_or terminals i 0) terminals least new (Some total)
        → IsGrowing graph wire_length terminals cap (i + 1) total new
    growing-better total new grown = record {
      capped = omega (arith, grown.1, so_far.capped);
      tree = λ _. grown.0;
      within = λ _ far reached. ⊎_elim
          (λ (first : i ≡ 0).
          let P : ℕ → Type 0 = λ start. IsWithinWalks (board_of graph) wire_length start terminals total in
          subst P (ap (λ (k : ℕ). get_or terminals k 0) first) grown.2 far reached)
          (λ (later : ¬ (i ≡ 0)). omega (arith, grown.1, so_far.within (omega (arith, later)) far reached))
          (cases_eq i 0);
      apart = λ _ all. absurd (omega (arith, all, grown.1, so_far.capped));
    }

    -- none is
    pub growing-same : (new : List ℕ)
        → IsGrowth graph wire_length (get_or terminals i 0) terminals least new None
        → IsGrowing graph wire_length terminals cap (i + 1) least wires
    growing-same new none = record {
      capped = so_far.capped;
      tree = so_far.tree;
      within = λ _ far reached. ⊎_elim
          (λ (first : i ≡ 0).
          let P : ℕ → Type 0 = λ start. IsWithinWalks (board_of graph) wire_length start terminals least in
          subst P (ap (λ (k : ℕ). get_or terminals k 0) first) none.0 far reached)
          (λ (later : ¬ (i ≡ 0)). so_far.within (omega (arith, later)) far reached)
          (cases_eq i 0);
      apart = λ _ all large. none.1 (omega (arith, all, large));
    }

    -- one start more
    pub growing-next : (new : List ℕ) (grown : Option ℕ) (next : ℕ)
        → IsGrowth graph wire_length (get_or terminals i 0) terminals least new grown
        → IfNone grown (new ≡ wires) → next ≡ unwrap_or grown least
        → IsGrowing graph wire_length terminals cap (i + 1) next new
    growing-next new (Some total) next grown kept is = let P : ℕ → Type 0 =
        λ k. IsGrowing graph wire_length terminals cap (i + 1) k new in
        subst P (sym is) (growing-better total new grown)
    growing-next new None next grown kept is =
        let P : ℕ → Type 0 = λ k. IsGrowing graph wire_length terminals cap (i + 1) k new in
        let Q : List ℕ → Type 0 = λ ws. IsGrowing graph wire_length terminals cap (i + 1) least ws in
        subst P (sym is) (subst Q (sym kept) (growing-same new grown))

    pub grown-some : 0 < i → least < cap
        → IsGrowth graph wire_length (slice_index terminals 0) terminals cap wires (Some least)
    grown-some some below = (so_far.tree below, below, so_far.within some)

    pub grown-none : 0 < i → cap ≤ least
        → IsGrowth graph wire_length (slice_index terminals 0) terminals cap wires None
    grown-none some all =
        let same : least ≡ cap = omega (arith, all, so_far.capped) in
        let P : ℕ → Type 0 = λ k. IsWithinWalks (board_of graph) wire_length (slice_index terminals 0)
        terminals k in
        (subst P same (so_far.within some), so_far.apart some same)

-- what a builder says of a tree, as one
pub growth-made : (graph : Graph) (wire_length : ℕ → ℕ) (terminals : List ℕ) (start cap : ℕ) (wires : List ℕ)
    (grown : Result (Option ℕ) AllocError)
    → IfOk grown (λ g. IfSome g (λ _. (board : Board) → graph ≡ graph_of board
    → IsMinimalTree board wires terminals)) → IfOk grown (λ g. IfSome g (λ _. IsStrictlyIncreasing wires))
    → IfOk grown (λ g. IfSome g (λ _. All (λ e. e < length graph.wires) wires))
    → IfOk grown (λ g. IfSome g (λ total. total ≡ length_of wire_length wires))
    → IfOk grown (λ g. IfSome g (λ total. total < cap))
    → IfOk grown (λ g. IfSome g (IsWithinWalks (board_of graph) wire_length start terminals))
    → IfOk grown (λ g. IfNone g (IsWithinWalks (board_of graph) wire_length start terminals cap))
    → IfOk grown (λ g. IfNone g (2 ^ 64 - 2 ^ 51 ≤ cap → (board : Board) → graph ≡ graph_of board
    → ¬ IsConnectable board terminals))
    → IfOk grown (IsGrowth graph wire_length start terminals cap wires)
growth-made graph wire_length terminals start cap wires (Ok (Some total)) minimal rising there long below
    short far apart = (
      record { minimal = minimal; rising = rising; there = there; long = long },
      below,
      short,
    )
growth-made graph wire_length terminals start cap wires (Ok None) minimal rising there long below short far
    apart = (far, apart)
growth-made graph wire_length terminals start cap wires (Err fault) minimal rising there long below short far
    apart = tt
