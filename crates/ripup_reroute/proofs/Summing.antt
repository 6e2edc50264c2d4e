-- The loads of wires over the first nets, and over all.
use Rattle.std.proofs.Common.{◌≡◌, ◌≢◌, ℕ, zero, suc, ◌+◌, ◌*◌, ◌^◌, ◌<◌, ◌≤◌, Bool, true, false, cond, List, [], length, refl, sym, ap, ◌∙◌, ⊎_elim, arith, add-one, get_or-set_same}
use Rattle.std.specs.Prelude.{slice_index, replicate, ◌==◌, All}
use Rattle.std.specs.List.{list_any}
use Rattle.std.proofs.lemmas.Bool.{cases_eq, cases_lt, eq-eqb, ne_eqb}
use Rattle.std.proofs.lemmas.List.{get_or-replicate, length-replicate, get_or_past, get_or_default, length-set}
use Rattle.tdm_problem.specs.Board.{Board, IsBoard}
use Rattle.tdm_problem.specs.Loads.{load_by, load_of, load_cost, without_net}
use Rattle.tdm_problem.specs.Sums.{sum_below}
use Rattle.tdm_problem.specs.Trees.{tree_of}
use Rattle.tdm_problem.proofs.LoadLaws.{sum_below-differ}
use Rattle.tdm_problem.proofs.SumsBelow.{sum_below-agree}
use Rattle.ripup_reroute.specs.Working.{IsAdded, AreLoads, AreNumbers}

-- what the first nets load a wire with
abbrev pub load_before : (trees : List (List ℕ)) → (numbers : List ℕ) → (n e : ℕ) → ℕ
load_before trees numbers n e = sum_below n (λ m. load_by (slice_index numbers m) (tree_of trees m) e)

-- the list has what the first nets load each wire with
pub record AreLoadsBefore (board : Board) (trees : List (List ℕ)) (numbers : List ℕ) (n : ℕ)
    (loads : List ℕ) : Type 0 where
  pub count : length loads ≡ length board.wires
  pub each : (e : ℕ) → slice_index loads e ≡ load_before trees numbers n e

pub before-none : (board : Board) (trees : List (List ℕ)) (numbers loads : List ℕ)
    → loads ≡ replicate (length board.wires) 0 → AreLoadsBefore board trees numbers 0 loads
before-none board trees numbers loads zeros =
    let long : length loads ≡ length board.wires = ap length zeros
    ∙ length-replicate (length board.wires) (let none : ℕ = 0 in none) in
    record {
      count = long;
      each = λ e. ⊎_elim
          (λ (inside : e < length board.wires). ap (λ (xs : List ℕ). slice_index xs e) zeros
          ∙ get_or-replicate (length board.wires) e 0 0 inside)
          (λ (past : length board.wires ≤ e). get_or_past loads e 0 (omega (arith, long, past)))
          (cases_lt e (length board.wires));
    }

pub before-more : (board : Board) (trees : List (List ℕ)) (numbers : List ℕ) (n : ℕ) (loads loads' : List ℕ)
    → AreLoadsBefore board trees numbers n loads
    → IsAdded (slice_index numbers n) (tree_of trees n) loads loads'
    → AreLoadsBefore board trees numbers (n + 1) loads'
before-more board trees numbers n loads loads' so_far added = record {
  count = added.count ∙ so_far.count;
  each = λ e.
      added.each e
      ∙ ap (λ (x : ℕ). x + load_by (slice_index numbers n) (tree_of trees n) e) (so_far.each e)
      ∙ ap (λ (k : ℕ). load_before trees numbers k e) (sym (add-one n));
}

pub before-all : (board : Board) (trees : List (List ℕ)) (numbers : List ℕ) (n : ℕ) (loads : List ℕ)
    → n ≡ length trees → AreLoadsBefore board trees numbers n loads → AreLoads board trees numbers loads
before-all board trees numbers n loads all so_far = record {
  count = so_far.count;
  each = λ e. so_far.each e ∙ ap (λ (k : ℕ). load_before trees numbers k e) all;
}

-- a sum of numbers none of which is large
pub sum_below-few : (n : ℕ) (f : ℕ → ℕ) (k : ℕ) → ((i : ℕ) → i < n → f i ≤ k) → sum_below n f ≤ n * k
sum_below-few zero f k small = omega arith
sum_below-few (suc n) f k small =
    omega (arith, sum_below-few n f k (λ i below. small i (omega (arith, below))), small n (omega arith))

part-small : (b : Bool) (number : ℕ) → cond b number 0 ≤ number
part-small true number = omega arith
part-small false number = omega arith

pub number-small : (board : Board) (numbers : List ℕ) (n : ℕ) → AreNumbers board numbers
    → n < length board.nets → slice_index numbers n ≤ 2 ^ 30
number-small board numbers n are below = are.small n 0 (omega (arith, below, are.count))

load_by-small : (board : Board) (trees : List (List ℕ)) (numbers : List ℕ) (n e : ℕ)
    → AreNumbers board numbers → n < length board.nets → load_by (slice_index numbers n) (tree_of trees n) e
    ≤ 2 ^ 30
load_by-small board trees numbers n e are below =
    omega (
      arith,
      part-small (list_any (λ d. d == e) (tree_of trees n)) (slice_index numbers n),
      number-small board numbers n are below,
    )

-- the loads of the first nets leave room for one more
pub before-small : (board : Board) (trees : List (List ℕ)) (numbers : List ℕ) (n : ℕ) (loads : List ℕ)
    → AreNumbers board numbers → n ≤ length board.nets → AreLoadsBefore board trees numbers n loads → (e : ℕ)
    → slice_index loads e ≤ n * 2 ^ 30
before-small board trees numbers n loads are few so_far e =
    let sum : load_before trees numbers n e ≤ n * 2 ^ 30 =
    sum_below-few n (λ m. load_by (slice_index numbers m) (tree_of trees m) e) (2 ^ 30)
    (λ m below. load_by-small board trees numbers m e are (omega (arith, below, few))) in
    omega (arith, so_far.each e, sum)

-- the load without a net, and once the largest number
pub without-small : (board : Board) (trees : List (List ℕ)) (numbers : List ℕ) (n e : ℕ)
    → AreNumbers board numbers → length trees ≡ length board.nets → n < length trees
    → load_of (without_net trees n) numbers e + 2 ^ 30 ≤ length trees * 2 ^ 30
without-small board trees numbers n e are count there =
    let f : ℕ → ℕ = λ m. load_by (slice_index numbers m) (tree_of (without_net trees n) m) e in
    let h : ℕ → ℕ = λ m. cond (n == m) (2 ^ 30) (f m) in
    let size : length (without_net trees n) ≡ length trees = length-set trees n [] in
    let none : f n ≡ 0 =
    ap (λ (tree : List ℕ). load_by (slice_index numbers n) tree e) (get_or-set_same trees n [] [] there) in
    let small : (m : ℕ) → m < length trees → f m ≤ 2 ^ 30 =
    λ m below. load_by-small board (without_net trees n) numbers m e are (omega (arith, below, count)) in
    let at_n : h n ≡ f n + 2 ^ 30 =
    omega (arith, none, ap (λ (b : Bool). cond b (2 ^ 30) (f n)) (eq-eqb n n refl)) in
    let apart : (m : ℕ) → m ≢ n → h m ≡ f m =
    λ m other. ap (λ (b : Bool). cond b (2 ^ 30) (f m)) (ne_eqb n m (λ same. other (sym same))) in
    let more : sum_below (length trees) h ≡ sum_below (length trees) f + 2 ^ 30 =
    sum_below-differ (length trees) n (2 ^ 30) h f there (λ m below other. apart m other) at_n in
    let few : sum_below (length trees) h ≤ length trees * 2 ^ 30 =
    sum_below-few (length trees) h (2 ^ 30) (λ m below. ⊎_elim
    (λ (same : n ≡ m). omega (arith, ap (λ (b : Bool). cond b (2 ^ 30) (f m)) (eq-eqb n m same)))
    (λ (other : n ≢ m). omega (arith, apart m (λ same. other (sym same)), small m below))
    (cases_eq n m)) in
    let sum : load_of (without_net trees n) numbers e ≡ sum_below (length trees) f =
    ap (λ (k : ℕ). sum_below k f) size in
    omega (arith, more, few, sum)

-- the sum of the squares of the loads is the cost
pub squares-cost : (board : Board) (trees : List (List ℕ)) (numbers loads : List ℕ)
    → AreLoads board trees numbers loads
    → sum_below (length loads) (λ e. slice_index loads e * slice_index loads e)
    ≡ load_cost board trees numbers
squares-cost board trees numbers loads are =
    ap (λ (k : ℕ). sum_below k (λ e. slice_index loads e * slice_index loads e)) are.count
    ∙ sum_below-agree (length board.wires) (λ e. slice_index loads e * slice_index loads e)
    (λ e. load_of trees numbers e * load_of trees numbers e)
    (λ e below. ap (λ (x : ℕ). x * x) (are.each e))

-- no load is large
pub loads-small : (board : Board) (trees : List (List ℕ)) (numbers loads : List ℕ) → IsBoard board
    → AreNumbers board numbers → length trees ≡ length board.nets → AreLoads board trees numbers loads
    → All (λ x. x ≤ 2 ^ 50) loads
loads-small board trees numbers loads is_board are count sums k d below =
    omega (
      arith,
      get_or_default loads k d 0 below,
      is_board.net_limit,
      count,
      before-small board trees numbers (length trees) loads are (omega (arith, count))
          (record { count = sums.count; each = sums.each }) k,
    )
