-- How the baseline of a board comes from the trees of its nets.
use Rattle.std.proofs.Common.{◌≡◌, ◌⊎◌, ℕ, zero, suc, ◌+◌, ◌^◌, ◌<◌, ◌≤◌, ◌==◌, true, false, List, [], ◌∷◌, length, map, slice_index_or, slice_index, refl, sym, ap, subst, ◌∙◌, inl, inr, arith, Contains, All, zero-add}
use Rattle.std.specs.Prelude.{sum_by, Option, Some, None, IsSome, Result, Ok, Err, OnOk}
use Rattle.std.proofs.lemmas.List.{length-map, nil_from_length}
use Rattle.std.proofs.lemmas.Bool.{eqb-true}
use Rattle.std.proofs.lemmas.List.Elements.{Contains-append_cases}
use Rattle.std.proofs.lemmas.List.Sums.{sum_by-append}
use Rattle.tdm_problem.specs.Board.{Board, IsBoard, IsRowBelow}
use Rattle.tdm_problem.specs.Routing.{Routing, uses_of, wires_of, ratios_of, HasRisingWires}
use Rattle.tdm_problem.specs.Walk.{AnyWire, IsMinimalTree}
use Rattle.tdm_problem.specs.Legal.{IsLegal, terminals_of, source_of, AllConnectable}
use Rattle.tdm_problem.specs.Trees.{tree_of, trees_of, AreTreesFor}
use Rattle.tdm_problem.proofs.Walks.{AnyWire-from_links}
use Rattle.board_graph.specs.Graph.{Graph}
use Rattle.even_legalise.specs.Uniform.{uniform_routing, uniform_use, JoinsEachNet}
use Rattle.even_legalise.proofs.UniformLaws.{wires_of_uniform, uses_of_map}
use Rattle.shortest_forest.specs.Reach.{Reach, IsHopForest}
use Rattle.shortest_forest.specs.Baseline.{IsBaseTree, IsParentChain, AreBaseTrees}
use Rattle.shortest_forest.proofs.BaselineLaws.{base-tree-minimal, base-tree-unique}
use Rattle.tdm_cli.specs.declared.baseline.TheConstants.{MAX_USES}
use Rattle.tdm_cli.specs.Baseline.{IsBaseline, AreUnconnectable, IsOverUseLimit}
use Rattle.tdm_cli.specs.Progress.{AreBasedSoFar, IsProgress, HasForestAt}

-- ---- sources

-- the source of a net is one of its FPGAs, and there
row-of : (board : Board) → IsBoard board → (n : ℕ) → n < length board.nets
    → IsRowBelow board.fpgas (terminals_of board n)
row-of board is n h = is.nets n [] h

pub source-there : (board : Board) → IsBoard board → (n : ℕ) → n < length board.nets
    → source_of board n < board.fpgas
source-there board is n h = let row = row-of board is n h in row.below 0 0 row.some

own-item : (xs : List ℕ) → 0 < length xs → Contains xs (slice_index xs 0)
own-item [] h = absurd (omega arith)
own-item (x ∷ xs) h = (0, omega arith, refl)

pub has-source : (board : Board) → IsBoard board → (n : ℕ) → n < length board.nets
    → Contains (terminals_of board n) (source_of board n)
has-source board is n h = own-item (terminals_of board n) (row-of board is n h).some

-- ---- forests

some-is : {A : Type 0} (o : Option A) (a : A) → o ≡ Some a → IsSome o
some-is o a e = rw e refl

pub forest-there : (graph : Graph) (forests : List (Option Reach)) (root at : ℕ) → at ≡ root
    → HasForestAt graph forests root → IsSome (slice_index_or forests at None)
forest-there graph forests root at same has = some-is _ has.0 (ap (λ r. slice_index_or forests r None) same
    ∙ has.1)

some-same : {A : Type 0} (x y : A) → Some x ≡ Some y → x ≡ y
some-same x y h = cc

pub forest-hops : (graph : Graph) (forests : List (Option Reach)) (root at : ℕ) (found : Reach) → at ≡ root
    → HasForestAt graph forests root → slice_index_or forests at None ≡ Some found → IsHopForest graph found
forest-hops graph forests root at found same has is =
    subst (IsHopForest graph)
    (some-same has.0 found (sym has.1 ∙ ap (λ r. slice_index_or forests r None) (sym same) ∙ is)) has.2

pub forest-root : (graph : Graph) (forests : List (Option Reach)) (root at : ℕ) (found : Reach) → at ≡ root
    → HasForestAt graph forests root → slice_index_or forests at None ≡ Some found → found.root ≡ root
forest-root graph forests root at found same has is =
    subst (λ (r : Reach). r.root ≡ root)
    (some-same has.0 found (sym has.1 ∙ ap (λ r. slice_index_or forests r None) (sym same) ∙ is)) has.3

-- ---- one net

pub never-empty : (xs : List ℕ) (n : ℕ) → n ≡ length xs → false ≡ (n == 0) → xs ≡ [] → ⊥
never-empty xs n count test empty = by n (count ∙ ap length empty) test
  where
    by : (m : ℕ) → m ≡ 0 → false ≡ (m == 0) → ⊥
    by zero e t = cc
    by (suc m) e t = absurd (omega (arith, e))

pub some-there : (xs : List ℕ) (n : ℕ) → n ≡ length xs → false ≡ (n == 0) → 0 < length xs
some-there [] n count test = absurd (never-empty [] n count test refl)
some-there (x ∷ xs) n count test = omega arith

pub none-there : (xs : List ℕ) (n : ℕ) → n ≡ length xs → true ≡ (n == 0) → xs ≡ []
none-there xs n count test = nil_from_length xs (let z : n ≡ 0 = eqb-true n 0 (sym test) in omega arith)

-- a baseline tree that was made for a net's FPGAs at its source
pub base-at : (board : Board) (n root : ℕ) (terms tree : List ℕ) → root ≡ source_of board n
    → terminals_of board n ≡ terms → IsBaseTree board root terms tree
    → IsBaseTree board (source_of board n) (terminals_of board n) tree
base-at board n root terms tree at same base = subst (λ t. IsBaseTree board (source_of board n) t tree)
    (sym same) (subst (λ r. IsBaseTree board r terms tree) at base)

pub on-ok-then : {A E : Type 0} (r : Result A E) (P Q : Type 0) → OnOk r P → (P → Q) → OnOk r Q
on-ok-then (Ok a) P Q p f = f p
on-ok-then (Err e) P Q p f = tt

-- ---- all nets

module _ (board : Board) (n : ℕ) (trees : List (List ℕ)) (used : ℕ) (missing : List ℕ)
    (done : n ≡ length board.nets) (so_far : IsProgress board n trees used missing) where
  pub all-missing : AreUnconnectable board missing
  all-missing = record {
    rising = so_far.rising;
    exact = λ k. (
      λ h. let old = (so_far.exact k).0 h in (omega (arith, old.0), old.1),
      λ h. (so_far.exact k).1 (omega (arith, h.0), h.1),
    );
  }

  all-based : missing ≡ [] → (so : AreBasedSoFar board n trees used) → AreBaseTrees board so.all
  all-based empty so = record { nets = so.count ∙ done; each = λ k h. so.each k (omega (arith, h)) }

  all-joined-of : AreBasedSoFar board n trees used → AllConnectable board
  all-joined-of so k h = so.joined k (omega (arith, h))

  pub all-joined : missing ≡ [] → AllConnectable board
  all-joined empty = all-joined-of (so_far.based empty)

  pub all-over : missing ≡ [] → MAX_USES < used → IsOverUseLimit board
  all-over empty high = let so = so_far.based empty in record {
    joined = all-joined-of so;
    trees = so.all;
    base = all-based empty so;
    over = so.over high;
  }

  pub all-base : missing ≡ [] → used ≤ MAX_USES → AreBaseTrees board trees
  all-base empty low = let so = so_far.based empty in subst (AreBaseTrees board) (sym (so.within low).1)
      (all-based empty so)

  pub all-few : missing ≡ [] → used ≤ MAX_USES → sum_by length trees ≤ MAX_USES
  all-few empty low =
      let so = so_far.based empty in
      let total : used ≡ sum_by length trees = (so.within low).0
      ∙ ap (sum_by length) (sym (so.within low).1) in
      omega (arith, total)

-- ---- the solution

chain-there : (board : Board) (source v u : ℕ) (es : List ℕ) → IsParentChain board source v es u → (e : ℕ)
    → Contains es e → AnyWire board e
chain-there board source v u [] chain e h = absurd (omega (arith, h.1))
chain-there board source v u (d ∷ es) chain e h =
    by (Contains-append_cases (d ∷ []) es e h) (chain-there board source chain.0 u es chain.2 e)
  where
    by : Contains (d ∷ []) e ⊎ Contains es e → (Contains es e → AnyWire board e) → AnyWire board e
    by (inl (zero, k, same)) later =
        subst (AnyWire board) same (AnyWire-from_links board d v chain.0 chain.1.links)
    by (inl (suc j, k, same)) later = absurd (omega (arith, k))
    by (inr there) later = later there

tree-there : (board : Board) (source : ℕ) (fpgas wires : List ℕ) → IsBaseTree board source fpgas wires
    → (e : ℕ) → Contains wires e → AnyWire board e
tree-there board source fpgas wires base e h =
    let on = (base.exact e).0 h in chain-there board source on.0 source on.2.0 on.2.1 e on.2.2

from-contains : (wires : List ℕ) (P : ℕ → Type 0) → ((e : ℕ) → Contains wires e → P e) → All P wires
from-contains wires P all k d h = all (slice_index_or wires k d) (k, h, own wires k d h)
  where
    own : (xs : List ℕ) (j c : ℕ) → j < length xs → slice_index_or xs j (slice_index_or xs j c)
        ≡ slice_index_or xs j c
    own [] j c m = absurd (omega arith)
    own (x ∷ xs) zero c m = refl
    own (x ∷ xs) (suc j) c m = own xs j c (omega (arith, m))

row-any : {A : Type 0} (xs : List (List A)) (k : ℕ) (d e : List A) → k < length xs
    → slice_index_or xs k d ≡ slice_index_or xs k e
row-any [] k d e h = absurd (omega arith)
row-any (x ∷ xs) zero d e h = refl
row-any (x ∷ xs) (suc k) d e h = row-any xs k d e (omega (arith, h))

sum-cons : {A : Type 0} (xs : List A) (xss : List (List A))
    → sum_by length (xs ∷ xss) ≡ length xs + sum_by length xss
sum-cons xs xss = sum_by-append length (xs ∷ []) xss ∙ ap (λ s. s + sum_by length xss) (zero-add (length xs))

module _ (board : Board) (is : IsBoard board) (trees : List (List ℕ)) (base : AreBaseTrees board trees) where
  pub base-trees-for : AreTreesFor board trees
  base-trees-for = record {
    nets = base.nets;
    there = λ k d h. subst (All (λ e. e < length board.wires)) (row-any trees k [] d h)
        (from-contains (tree_of trees k) (AnyWire board)
        (tree-there board (source_of board k) (terminals_of board k) (tree_of trees k)
        (base.each k (omega (arith, h, base.nets)))));
  }

  pub base-minimal-each : (n : ℕ) → n < length board.nets
      → IsMinimalTree board (tree_of trees n) (terminals_of board n)
  base-minimal-each n h = base-tree-minimal board (source_of board n) (terminals_of board n) (tree_of trees n)
      (has-source board is n h) (base.each n h)

  pub base-joins : JoinsEachNet board trees
  base-joins n h = (base-minimal-each n h).joins

  wires-same : (n : ℕ) → wires_of (uses_of (uniform_routing board trees) n) ≡ tree_of trees n
  wires-same n = ap wires_of (uses_of_map (uniform_use board trees) trees n)
      ∙ wires_of_uniform board trees (tree_of trees n)

  same-trees : (all : List (List ℕ)) → map wires_of (map (λ wires. map (uniform_use board trees) wires) all)
      ≡ all
  same-trees [] = refl
  same-trees (wires ∷ all) = let first = wires_of_uniform board trees wires in let rest = same-trees all in cc

  same-lengths : (all : List (List ℕ))
      → sum_by length (map (λ wires. map (uniform_use board trees) wires) all) ≡ sum_by length all
  same-lengths [] = refl
  same-lengths (wires ∷ all) =
      sum-cons (map (uniform_use board trees) wires) (map (λ ws. map (uniform_use board trees) ws) all)
      ∙ ap (λ s. length (map (uniform_use board trees) wires) + s) (same-lengths all)
      ∙ ap (λ s. s + sum_by length all) (length-map wires (uniform_use board trees))
      ∙ sym (sum-cons wires all)

  pub baseline-of : AllConnectable board → sum_by length trees ≤ MAX_USES → (solution : Routing)
      → solution ≡ uniform_routing board trees → IsLegal board solution
      → All (λ uses. All (λ ratio. ratio < 2 ^ 32) (ratios_of uses)) solution → HasRisingWires solution
      → IsBaseline board solution
  baseline-of joined few solution same legal small rising = record {
    joined = joined;
    legal = legal;
    minimal = λ n h. subst (λ r. IsMinimalTree board (wires_of (uses_of r n)) (terminals_of board n))
        (sym same) (subst (λ w. IsMinimalTree board w (terminals_of board n)) (sym (wires-same n))
        (base-minimal-each n h));
    base = subst (λ r. AreBaseTrees board (trees_of r)) (sym same)
        (subst (AreBaseTrees board) (sym (same-trees trees)) base);
    uniform = same ∙ ap (uniform_routing board) (sym (ap trees_of same ∙ same-trees trees));
    few = subst (λ r. sum_by length r ≤ MAX_USES) (sym same) (rw (same-lengths trees) few);
    sayable = record { limits = is; is_for = legal.is_for; rising = rising; short = small };
  }

-- ---- what a baseline says of the board

-- there is one list of baseline trees
pub base-trees-unique : (board : Board) (xs ys : List (List ℕ)) → AreBaseTrees board xs
    → AreBaseTrees board ys → xs ≡ ys
base-trees-unique board xs ys s t =
    rows-same xs ys (s.nets ∙ sym t.nets) (λ k h. base-tree-unique board (source_of board k)
    (terminals_of board k) (tree_of xs k) (tree_of ys k) (s.each k (omega (arith, h, s.nets)))
    (t.each k (omega (arith, h, s.nets))))
  where
    rows-same : (xs ys : List (List ℕ)) → length xs ≡ length ys
        → ((k : ℕ) → k < length xs → tree_of xs k ≡ tree_of ys k) → xs ≡ ys
    rows-same [] [] count same = refl
    rows-same [] (y ∷ ys) count same = absurd (omega (arith, count))
    rows-same (x ∷ xs) [] count same = absurd (omega (arith, count))
    rows-same (x ∷ xs) (y ∷ ys) count same =
        let first : x ≡ y = same 0 (omega arith) in
        let rest : xs ≡ ys =
        rows-same xs ys (omega (arith, count)) (λ k h. same (suc k) (omega (arith, h))) in
        cc

pub sum-lengths-same : (routing : Routing) → sum_by length (trees_of routing) ≡ sum_by length routing
sum-lengths-same [] = refl
sum-lengths-same (uses ∷ routing) =
    sum-cons (wires_of uses) (trees_of routing)
    ∙ ap (λ s. length (wires_of uses) + s) (sum-lengths-same routing)
    ∙ ap (λ s. s + sum_by length routing) (length-map uses (λ u. u.wire))
    ∙ sym (sum-cons uses routing)
