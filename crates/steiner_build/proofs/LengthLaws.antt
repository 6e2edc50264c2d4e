-- How long trees and walks may be.
use Rattle.std.proofs.Common.{◌≡◌, ◌≢◌, ◌⊎◌, ℕ, ◌*◌, ◌^◌, ◌<◌, ◌≤◌, true, false, cond, eqb, List, [], ◌∷◌, ◌++◌, length, refl, sym, ap, subst, inl, inr, ⊎_elim, arith, get_or}
use Rattle.std.specs.Prelude.{sum_by, All, AllPairs, Contains}
use Rattle.std.proofs.lemmas.Bool.Decides.{eqb_tells}
use Rattle.std.proofs.lemmas.List.Sums.{sum_by-cons, sum_by-le}
use Rattle.tdm_problem.specs.Board.{Board}
use Rattle.tdm_problem.specs.Walk.{Links, IsWalk, AnyWire}
use Rattle.tdm_problem.specs.Distance.{length_of}
use Rattle.tdm_problem.proofs.Walks.{AnyWire-from_links, either}
use Rattle.shortest_forest.proofs.BaselineLaws.{other-end}
use Rattle.std.proofs.lemmas.List.{append-nil}
use Rattle.std.specs.Cmp.{unsigned_Decides}
use Rattle.std.proofs.lemmas.Bool.{eqb-true}
use Rattle.std.proofs.lemmas.List.Folds.{Any-from_list_any}
use Rattle.std.proofs.lemmas.Map.Steps.{length-le_from_distinct_below}
use Rattle.std.proofs.lemmas.Map.Made.{IsDistinct-from_AllPairs}
use Rattle.steiner_build.specs.Growth.{IsTree, IsOn, IsBranch}
use Rattle.steiner_build.specs.Building.{IsReachedWithin, IsWithinWalks, IsWithinDistances, IsWithinJoining}
use Rattle.steiner_build.proofs.GrowthLaws.{same_or_other}
use Rattle.steiner_build.proofs.TreeLaws.{IsTree-one, IsTree-branch}
use Rattle.steiner_build.proofs.Trails.{walk-within}

-- a walk takes wires of the board alone
pub any-walk : (board : Board) (wires : ℕ → Type 0) (a : ℕ) (es : List ℕ) (b : ℕ) → IsWalk board wires a es b
    → IsWalk board (AnyWire board) a es b
any-walk board wires a [] b walk = walk
any-walk board wires a (e ∷ es) b walk = (
  AnyWire-from_links board e a walk.1.0 walk.1.1,
  (walk.1.0, walk.1.1, any-walk board wires walk.1.0 es b walk.1.2),
)

-- what no walks from the start undercut, the least distances do not either
pub IsWithinDistances-from_walks : (board : Board) (wire_length : ℕ → ℕ) (start : ℕ) (fpgas : List ℕ)
    (number : ℕ) → IsWithinWalks board wire_length start fpgas number
    → IsWithinDistances board wire_length start fpgas number
IsWithinDistances-from_walks board wire_length start fpgas number within distance each =
    within distance
    (λ t there.
    let d = each t there in
    let no_longer : length_of wire_length d.walk.0 ≤ distance t = omega (arith, d.walk.2) in
    (d.walk.0, d.walk.1, no_longer))

-- ---- two terminals

module _ (board : Board) (wire_length : ℕ → ℕ) (s o : ℕ) (es : List ℕ)
    (walk : IsWalk board (AnyWire board) s es o) where
  -- how far a terminal is, if the other one is so far
  pair-far : ℕ → ℕ
  pair-far t = cond (eqb t s) 0 (length_of wire_length es)

  far-start : pair-far s ≡ 0
  unfolding pair-far
  far-start = ⊎_elim (λ h. ap (λ c. cond c 0 (length_of wire_length es)) h.0) (λ h. absurd (h.1 refl))
      (eqb_tells s s)

  far-other : (t : ℕ) → pair-far t ≤ length_of wire_length es
  unfolding pair-far
  far-other t = by (eqb_tells t s)
    where
      by : ((eqb t s ≡ true) × (t ≡ s)) ⊎ ((eqb t s ≡ false) × (t ≢ s))
          → cond (eqb t s) 0 (length_of wire_length es) ≤ length_of wire_length es
      by (inl h) = omega (arith, ap (λ c. cond c 0 (length_of wire_length es)) h.0)
      by (inr h) = omega (arith, ap (λ c. cond c 0 (length_of wire_length es)) h.0)

  pair-reached : (t : ℕ) → (t ≡ s) ⊎ (t ≡ o) → IsReachedWithin board wire_length s t (pair-far t)
  unfolding pair-far
  pair-reached t which = by (eqb_tells t s) which
    where
      by : ((eqb t s ≡ true) × (t ≡ s)) ⊎ ((eqb t s ≡ false) × (t ≢ s)) → (t ≡ s) ⊎ (t ≡ o)
          → IsReachedWithin board wire_length s t (cond (eqb t s) 0 (length_of wire_length es))
      by (inl h) which = ([], sym h.1, omega arith)
      by (inr h) (inl same) = absurd (h.1 same)
      by (inr h) (inr same) =
          let no_longer : length_of wire_length es ≤ cond (eqb t s) 0 (length_of wire_length es) =
          omega (arith, ap (λ c. cond c 0 (length_of wire_length es)) h.0) in
          (es, subst (λ (x : ℕ). IsWalk board (AnyWire board) s es x) (sym same) walk, no_longer)

-- from the first of two terminals: wires that join them are no shorter
pub IsWithinJoining-from_first : (board : Board) (wire_length : ℕ → ℕ) (a b number : ℕ)
    → IsWithinWalks board wire_length a (a ∷ b ∷ []) number
    → IsWithinJoining board wire_length (a ∷ b ∷ []) number
IsWithinJoining-from_first board wire_length a b number within wires joins =
    let walk = joins a b (0, omega arith, refl) (1, omega arith, refl) in
    let way = walk-within board wire_length wires a b walk.0 walk.1 in
    let any : IsWalk board (AnyWire board) a way.0 b = any-walk board (Contains wires) a way.0 b way.1 in
    let far : ℕ → ℕ = pair-far board wire_length a b way.0 any in
    let least : number ≤ sum_by far (a ∷ b ∷ []) =
    within far (λ t there. pair-reached board wire_length a b way.0 any t
    (⊎_elim (λ h. inl (sym h)) (λ h. inr (sym h)) (either a b t there))) in
    omega (
      arith,
      least,
      way.2,
      far-start board wire_length a b way.0 any,
      far-other board wire_length a b way.0 any b,
      sum_by-cons far a (b ∷ []),
      sum_by-cons far b [],
    )

-- from the second
pub IsWithinJoining-from_second : (board : Board) (wire_length : ℕ → ℕ) (a b number : ℕ)
    → IsWithinWalks board wire_length b (a ∷ b ∷ []) number
    → IsWithinJoining board wire_length (a ∷ b ∷ []) number
IsWithinJoining-from_second board wire_length a b number within wires joins =
    let walk = joins b a (1, omega arith, refl) (0, omega arith, refl) in
    let way = walk-within board wire_length wires b a walk.0 walk.1 in
    let any : IsWalk board (AnyWire board) b way.0 a = any-walk board (Contains wires) b way.0 a way.1 in
    let far : ℕ → ℕ = pair-far board wire_length b a way.0 any in
    let least : number ≤ sum_by far (a ∷ b ∷ []) =
    within far (λ t there. pair-reached board wire_length b a way.0 any t
    (⊎_elim (λ h. inr (sym h)) (λ h. inl (sym h)) (either a b t there))) in
    omega (
      arith,
      least,
      way.2,
      far-start board wire_length b a way.0 any,
      far-other board wire_length b a way.0 any a,
      sum_by-cons far a (b ∷ []),
      sum_by-cons far b [],
    )

-- ---- walks without repeats

-- where a path has come through an FPGA, the rest of it is a path from there
rest-at : (board : Board) (reached : ℕ → Type 0) (a x : ℕ) (es : List ℕ) → IsBranch board reached x es
    → ((fs : List ℕ) × IsBranch board reached a fs) ⊎ (IsOn board x es a → ⊥)
rest-at board reached a x [] branch = inr (λ h. h)
rest-at board reached a x (e ∷ es) branch =
    by (same_or_other x a) (rest-at board reached a branch.1.0 es branch.1.2)
  where
    by : (x ≡ a) ⊎ (x ≢ a) → ((fs : List ℕ) × IsBranch board reached a fs) ⊎ (IsOn board branch.1.0 es a → ⊥)
        → ((fs : List ℕ) × IsBranch board reached a fs) ⊎ (IsOn board x (e ∷ es) a → ⊥)
    by (inl same) rest = inl (e ∷ es, subst (λ (z : ℕ). IsBranch board reached z (e ∷ es)) same branch)
    by (inr other) (inl found) = inl found
    by (inr other) (inr absent) =
        inr (λ h. ⊎_elim other
        (λ on. absent (subst (λ (z : ℕ). IsOn board z es a)
        (other-end board e x on.0 branch.1.0 on.1 branch.1.1) on.2)) h)

-- a walk gives a path without repeats
path-of : (board : Board) (wires : ℕ → Type 0) (a : ℕ) (es : List ℕ) (b : ℕ) → IsWalk board wires a es b
    → (fs : List ℕ) × IsBranch board (λ f. f ≡ b) a fs
path-of board wires a [] b walk = ([], walk)
path-of board wires a (e ∷ es) b walk = by (same_or_other a b) (path-of board wires walk.1.0 es b walk.1.2)
  where
    by : (a ≡ b) ⊎ (a ≢ b) → (fs : List ℕ) × IsBranch board (λ f. f ≡ b) walk.1.0 fs → (fs : List ℕ)
        × IsBranch board (λ f. f ≡ b) a fs
    by (inl same) rest = ([], same)
    by (inr other) rest =
        ⊎_elim (λ found. found) (λ absent. (e ∷ rest.0, (other, (walk.1.0, walk.1.1, rest.1, absent))))
        (rest-at board (λ f. f ≡ b) a walk.1.0 rest.0 rest.1)

-- a path is a walk
branch-walk : (board : Board) (b a : ℕ) (es : List ℕ) → IsBranch board (λ f. f ≡ b) a es
    → IsWalk board (AnyWire board) a es b
branch-walk board b a [] branch = branch
branch-walk board b a (e ∷ es) branch = (
  AnyWire-from_links board e a branch.1.0 branch.1.1,
  (branch.1.0, branch.1.1, branch-walk board b branch.1.0 es branch.1.2),
)

-- different numbers below a limit are no more than the limit
distinct-few : (xs : List ℕ) (n : ℕ) → AllPairs (λ x y. x ≢ y) xs → All (λ x. x < n) xs → length xs ≤ n
distinct-few xs n distinct below =
    length-le_from_distinct_below xs n (IsDistinct-from_AllPairs {eq = eqb} unsigned_Decides xs distinct)
    (λ q found. here q (Any-from_list_any (λ y. eqb q y) xs found))
  where
    here : (q : ℕ) → (k : ℕ) × (x : ℕ) × (k < length xs) × (get_or xs k x ≡ x) × (eqb q x ≡ true) → q < n
    here q (k, x, there, is, same) = omega (arith, eqb-true q x same, below k x there, is)

-- a tree has fewer wires than the board has FPGAs
pub tree-few : (board : Board) (wires : List ℕ) (reached terminals : ℕ → Type 0)
    → IsTree board wires reached terminals → length wires < board.fpgas
tree-few board wires reached terminals tree =
    let few : length tree.one_more.fpgas ≤ board.fpgas =
    distinct-few tree.one_more.fpgas board.fpgas tree.one_more.distinct tree.one_more.below in
    omega (arith, few, tree.one_more.count)

-- where there is a walk, there is one with fewer wires than the board has FPGAs
pub walk-few : (board : Board) → ((e a b : ℕ) → Links board e a b → a < board.fpgas)
    → (a : ℕ) (es : List ℕ) (b : ℕ) → b < board.fpgas → IsWalk board (AnyWire board) a es b
    → (fs : List ℕ) × IsWalk board (AnyWire board) a fs b × (length fs < board.fpgas)
walk-few board inside a es b below walk =
    let path = path-of board (AnyWire board) a es b walk in
    let tree = IsTree-branch board [] (λ f. f ≡ b) (λ t. t ≡ b) b refl inside (IsTree-one board b below) a
    path.0 path.1 in
    let few : length (path.0 ++ []) < board.fpgas = tree-few board (path.0 ++ []) (λ f. IsOn board a path.0 f
    ⊎ (f ≡ b)) (λ t. (t ≡ a) ⊎ (t ≡ b)) tree in (
      path.0,
      branch-walk board b a path.0 path.1,
      subst (λ (xs : List ℕ). length xs < board.fpgas) (append-nil path.0) few,
    )

-- few wires are not long
pub length-few : (board : Board) (wire_length : ℕ → ℕ) → ((e : ℕ) → AnyWire board e → wire_length e ≤ 2 ^ 51)
    → board.fpgas ≤ 4096 → (es : List ℕ) → All (AnyWire board) es → length es < board.fpgas
    → length_of wire_length es ≤ 4095 * 2 ^ 51
length-few board wire_length limit small es inside few =
    let sum : sum_by wire_length es ≤ length es * 2 ^ 51 =
    sum_by-le wire_length (2 ^ 51) es (λ k d there. limit _ (inside k d there)) in
    omega (arith, sum, few, small)
