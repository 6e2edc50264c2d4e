-- What a turn comes to.
use Rattle.std.proofs.Common.{◌≡◌, ◌≢◌, ℕ, ◌+◌, ◌*◌, ◌^◌, ◌<◌, ◌≤◌, List, [], ◌∷◌, length, refl, sym, ap, ◌∙◌, subst, inl, inr, ⊎_elim, arith, length-set, get_or-set_same, get_or-set_other}
use Rattle.std.specs.Prelude.{slice_index, slice_set, All, AllPairs}
use Rattle.std.specs.List.Sorted.{IsStrictlyIncreasing}
use Rattle.std.proofs.Math.Nat.{mul-le-mul_left, mul-lt-mul_of_pos_left}
use Rattle.std.proofs.lemmas.Bool.{cases_eq}
use Rattle.std.proofs.lemmas.List.{set-get_or, set-set}
use Rattle.std.proofs.lemmas.List.Elements.{All-set}
use Rattle.tdm_problem.specs.Board.{Board, IsBoard}
use Rattle.tdm_problem.specs.Distance.{length_of}
use Rattle.tdm_problem.specs.Legal.{source_of, terminals_of}
use Rattle.tdm_problem.specs.Loads.{load_by, load_of, load_cost, marginal_length, without_net, AreWiresOf}
use Rattle.tdm_problem.specs.Trees.{tree_of}
use Rattle.tdm_problem.specs.Walk.{IsMinimalTree}
use Rattle.tdm_problem.proofs.LoadLaws.{load_of-moved, load_cost-exchanged}
use Rattle.steiner_build.specs.Building.{IsWithinWalks}
use Rattle.steiner_build.proofs.LengthLaws.{IsWithinDistances-from_walks, IsWithinJoining-from_first}
use Rattle.ripup_reroute.specs.Turns.{IsShortFor, IsTurn}
use Rattle.ripup_reroute.specs.Rerouting.{AreMinimalTrees, IsSettledFor}
use Rattle.ripup_reroute.specs.Working.{IsAdded, AreLoads, AreNumbers, IsWithinNet, IsBetter, old_length}
use Rattle.ripup_reroute.proofs.Adding.{rising-distinct}
use Rattle.ripup_reroute.proofs.Summing.{without-small, number-small}

-- each net has a tree, of wires of the board
pub has-tree : (board : Board) (trees : List (List ℕ)) (n : ℕ) → AreMinimalTrees board trees
    → n < length board.nets → n < length trees
has-tree board trees n are below = omega (arith, below, are.for_board.nets)

pub wires-own : (board : Board) (trees : List (List ℕ)) (n : ℕ) (wires : List ℕ) → AreMinimalTrees board trees
    → n < length board.nets → tree_of trees n ≡ wires → IsStrictlyIncreasing wires
    → AreWiresOf board (tree_of trees n)
wires-own board trees n wires are below is rising = record {
  there = are.for_board.there n [] (has-tree board trees n are below);
  distinct = subst (AllPairs (λ d e. d ≢ e)) (sym is) (rising-distinct wires rising);
}

module _ (board : Board) (trees : List (List ℕ)) (numbers : List ℕ) (n : ℕ) where
  -- a tree within walks is short
  short-within : IsWithinNet board trees numbers n (old_length trees numbers n)
      → IsShortFor board numbers n trees
  short-within within distance are =
      mul-le-mul_left (slice_index numbers n)
      (IsWithinDistances-from_walks board (marginal_length trees numbers n) (source_of board n)
      (terminals_of board n) (old_length trees numbers n) within distance are)

  -- a net whose tree is short may keep it
  pub IsTurn-stay : IsShortFor board numbers n trees → IsTurn board numbers n trees trees
  IsTurn-stay short = record { others = sym (set-get_or trees n []); own = inl refl; short = short }

  module _ (there : n < length trees) (old : AreWiresOf board (tree_of trees n)) where
    -- a net whose tree is within walks has settled
    pub settled-within : IsWithinNet board trees numbers n (old_length trees numbers n)
        → IsSettledFor board numbers n trees
    settled-within within = record {
      two = λ a b wires are new joins. (
          let pair : IsWithinWalks board (marginal_length trees numbers n) a (a ∷ b ∷ [])
          (old_length trees numbers n) =
          subst (λ (ts : List ℕ). IsWithinWalks board (marginal_length trees numbers n) (slice_index ts 0) ts
          (old_length trees numbers n)) are within in
          let less : slice_index numbers n * old_length trees numbers n ≤ slice_index numbers n * length_of
          (marginal_length trees numbers n) wires =
          mul-le-mul_left (slice_index numbers n)
          (IsWithinJoining-from_first board (marginal_length trees numbers n) a b (old_length trees numbers n)
          pair wires joins) in
          omega (arith, less, load_cost-exchanged board trees numbers n wires there old new));
      short = short-within within;
    }

    -- a net with the number 0 has settled
    pub settled-idle : slice_index numbers n ≡ 0 → IsSettledFor board numbers n trees
    settled-idle none = record {
      two = λ a b wires are new joins. (
          let by_none : (k : ℕ) → slice_index numbers n * k ≡ 0 =
          λ k. omega (arith, ap (λ (s : ℕ). s * k) none) in
          omega (
            arith,
            by_none (old_length trees numbers n),
            by_none (length_of (marginal_length trees numbers n) wires),
            load_cost-exchanged board trees numbers n wires there old new,
          ));
      short = λ distance are. (
          let by_none : (k : ℕ) → slice_index numbers n * k ≡ 0 =
          λ k. omega (arith, ap (λ (s : ℕ). s * k) none) in
          omega (arith, by_none (old_length trees numbers n)));
    }

    module _ (wires : List ℕ) (better : IsBetter board trees numbers n wires) where
      new-wires : AreWiresOf board wires
      new-wires = record { there = better.there; distinct = rising-distinct wires better.rising }

      tree-is : tree_of (slice_set trees n wires) n ≡ wires
      tree-is = get_or-set_same trees n wires [] there

      lengths-stay : marginal_length (slice_set trees n wires) numbers n ≡ marginal_length trees numbers n
      lengths-stay = ap {B = ℕ → ℕ} (λ ts e. 2 * load_of ts numbers e + slice_index numbers n)
          (set-set trees n wires [])

      -- a better tree costs less
      pub cost-falls : 0 < slice_index numbers n → load_cost board (slice_set trees n wires) numbers
          < load_cost board trees numbers
      cost-falls positive =
          let less : slice_index numbers n * length_of (marginal_length trees numbers n) wires
          < slice_index numbers n * old_length trees numbers n =
          mul-lt-mul_of_pos_left better.shorter positive in
          omega (arith, less, load_cost-exchanged board trees numbers n wires there old new-wires)

      -- the turn of a net with a better tree
      pub IsTurn-better : 0 < slice_index numbers n → IsTurn board numbers n trees (slice_set trees n wires)
      IsTurn-better positive =
          let new : List (List ℕ) = slice_set trees n wires in
          let long : old_length new numbers n ≡ length_of (marginal_length trees numbers n) wires =
          ap (λ (f : ℕ → ℕ). length_of f (tree_of new n)) lengths-stay
          ∙ ap (length_of (marginal_length trees numbers n)) tree-is in
          let within : IsWithinNet board new numbers n (old_length new numbers n) =
          subst (λ (k : ℕ). IsWithinNet board new numbers n k) (sym long)
          (subst (λ (f : ℕ → ℕ). IsWithinWalks board f (source_of board n) (terminals_of board n)
          (length_of (marginal_length trees numbers n) wires)) (sym lengths-stay) better.within) in
          record {
            others = ap (slice_set trees n) (sym tree-is);
            own = inr (
              subst (λ (w : List ℕ). IsMinimalTree board w (terminals_of board n))
                  (sym tree-is) better.minimal,
              subst (λ (w : List ℕ). IsStrictlyIncreasing w) (sym tree-is) better.rising,
              cost-falls positive,
            );
            short = λ distance are. mul-le-mul_left (slice_index numbers n)
                (IsWithinDistances-from_walks board (marginal_length new numbers n) (source_of board n)
                (terminals_of board n) (old_length new numbers n) within distance are);
          }

      -- all trees are minimal then
      pub minimal-better : AreMinimalTrees board trees → AreMinimalTrees board (slice_set trees n wires)
      minimal-better are = record {
        for_board = record {
          nets = length-set trees n wires ∙ are.for_board.nets;
          there = All-set (λ w. All (λ e. e < length board.wires) w) trees n wires better.there
              are.for_board.there;
        };
        minimal = λ m below. ⊎_elim
            (λ (same : m ≡ n).
            subst (λ (k : ℕ). IsMinimalTree board (tree_of (slice_set trees n wires) k)
            (terminals_of board k)) (sym same)
            (subst (λ (w : List ℕ). IsMinimalTree board w (terminals_of board n))
            (sym tree-is) better.minimal))
            (λ (other : m ≢ n).
            subst (λ (w : List ℕ). IsMinimalTree board w (terminals_of board m))
            (sym (get_or-set_other trees n m wires [] other)) (are.minimal m below))
            (cases_eq m n);
      }

-- ---- the loads within a turn

module _ (board : Board) (trees : List (List ℕ)) (numbers : List ℕ) (n : ℕ) (there : n < length trees) where
  -- the wires of the net have its number among their loads
  pub loads-own : (loads : List ℕ) → AreLoads board trees numbers loads → (e : ℕ)
      → slice_index loads e ≡ load_of (without_net trees n) numbers e + load_by (slice_index numbers n)
      (tree_of trees n) e
  loads-own loads are e =
      are.each e
      ∙ ap (λ (ts : List (List ℕ)). load_of ts numbers e) (sym (set-get_or trees n []))
      ∙ load_of-moved trees numbers n (tree_of trees n) e there

  module _ (tree : List ℕ) (is : tree_of trees n ≡ tree) where
    -- the number is taken off
    pub loads-without : (loads rest : List ℕ) → AreLoads board trees numbers loads
        → IsAdded (slice_index numbers n) tree rest loads → AreLoads board (without_net trees n) numbers rest
    loads-without loads rest are added = record {
      count = sym added.count ∙ are.count;
      each = λ e. omega (
        arith,
        loads-own loads are e,
        ap (λ (w : List ℕ). load_by (slice_index numbers n) w e) is,
        added.each e,
      );
    }

  -- the number is put on other wires
  pub loads-with : (wires loads rest : List ℕ) → AreLoads board (without_net trees n) numbers rest
      → IsAdded (slice_index numbers n) wires rest loads
      → AreLoads board (slice_set trees n wires) numbers loads
  loads-with wires loads rest are added = record {
    count = added.count ∙ are.count;
    each = λ e. omega (arith, added.each e, are.each e, load_of-moved trees numbers n wires e there);
  }

  -- the number is put back
  pub loads-back : (tree loads rest : List ℕ) → tree_of trees n ≡ tree
      → AreLoads board (without_net trees n) numbers rest → IsAdded (slice_index numbers n) tree rest loads
      → AreLoads board trees numbers loads
  loads-back tree loads rest is are added =
      subst (λ (ts : List (List ℕ)). AreLoads board ts numbers loads) (ap (slice_set trees n) (sym is)
      ∙ set-get_or trees n []) (loads-with tree loads rest are added)

-- there is room for the number of the net
pub room-for : (board : Board) (trees : List (List ℕ)) (numbers : List ℕ) (n : ℕ) (rest : List ℕ)
    → IsBoard board → AreNumbers board numbers → AreMinimalTrees board trees → n < length board.nets
    → AreLoads board (without_net trees n) numbers rest → (e : ℕ) → slice_index rest e + slice_index numbers n
    < 2 ^ 64
room-for board trees numbers n rest is_board are minimal below loads e =
    omega (
      arith,
      loads.each e,
      is_board.net_limit,
      minimal.for_board.nets,
      without-small board trees numbers n e are minimal.for_board.nets (has-tree board trees n minimal below),
      number-small board numbers n are below,
    )
