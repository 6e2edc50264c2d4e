-- A tree grows by a path that leads from a terminal to the tree, by FPGAs that are not reached and not met
-- before.
use Rattle.std.proofs.Common.{◌≡◌, ◌≢◌, ◌⊎◌, ℕ, suc, ◌<◌, List, [], ◌∷◌, ◌++◌, refl, sym, subst, inl, inr, ⊎_elim, arith}
use Rattle.std.specs.Prelude.{All, Contains}
use Rattle.std.proofs.lemmas.List.Kept.{AllPairs-cons}
use Rattle.std.proofs.lemmas.List.Elements.{All-nil, All-cons, All-contains_itself, All-weaker}
use Rattle.tdm_problem.specs.Board.{Board}
use Rattle.tdm_problem.specs.Walk.{Links}
use Rattle.tdm_problem.proofs.Walks.{Links-sym}
use Rattle.shortest_forest.proofs.BaselineLaws.{contains-cons, other-end}
use Rattle.steiner_build.specs.Growth.{IsTree, IsOn, IsBranch}
use Rattle.steiner_build.proofs.GrowthLaws.{IsGrown-one, IsGrown-same, IsGrown-tip, IsGrown-more, IsHung}

contains-later : (x y : ℕ) (xs : List ℕ) → Contains xs y → Contains (x ∷ xs) y
contains-later x y xs h = (suc h.0, omega (arith, h.1), h.2)

-- a number that no element is differs from all
all-other : (x : ℕ) (xs : List ℕ) → (Contains xs x → ⊥) → All (λ y. x ≢ y) xs
all-other x xs absent =
    All-weaker (Contains xs) (λ y. x ≢ y) (λ y h same. absent (subst (λ (z : ℕ). Contains xs z) (sym same) h))
    xs (All-contains_itself xs)

-- one FPGA is the tree of itself
pub IsTree-one : (board : Board) (source : ℕ) → source < board.fpgas
    → IsTree board [] (λ f. f ≡ source) (λ t. t ≡ source)
IsTree-one board source below = record {
  grown = IsGrown-same board (λ _. ⊥) (Contains []) (λ f. f ≡ source) (λ f. f ≡ source) (λ t. t ≡ source)
      (λ t. t ≡ source)
      (λ e h. absurd h) (λ e h. omega (arith, h.1)) (λ f h. h) (λ f h. h) (λ t h. h) (λ t h. h)
      (IsGrown-one board source);
  distinct = λ i j d before there. absurd (omega arith);
  one_more = record {
    fpgas = source ∷ [];
    count = refl;
    distinct = AllPairs-cons (λ x y. x ≢ y) source [] (All-nil (λ y. source ≢ y))
        (λ i j d before there. absurd (omega arith));
    below = All-cons (λ f. f < board.fpgas) source [] below (All-nil (λ f. f < board.fpgas));
    there = λ f h. ⊎_elim (λ same. sym same) (λ none. absurd (omega (arith, none.1)))
        (contains-cons source f [] h);
  };
}

module _ (board : Board) (wires : List ℕ) (reached terminals : ℕ → Type 0) where
  -- the same tree under other words
  pub IsTree-same : (reached' terminals' : ℕ → Type 0)
      → ((f : ℕ) → reached f → reached' f) → ((f : ℕ) → reached' f → reached f)
      → ((t : ℕ) → terminals t → terminals' t) → ((t : ℕ) → terminals' t → terminals t)
      → IsTree board wires reached terminals → IsTree board wires reached' terminals'
  IsTree-same reached' terminals' r r' t t' tree = record {
    grown = IsGrown-same board (Contains wires) (Contains wires) reached reached' terminals terminals'
        (λ e h. h) (λ e h. h) r r' t t' tree.grown;
    distinct = tree.distinct;
    one_more = record {
      fpgas = tree.one_more.fpgas;
      count = tree.one_more.count;
      distinct = tree.one_more.distinct;
      below = tree.one_more.below;
      there = λ f h. r f (tree.one_more.there f h);
    };
  }

  pub IsTree-tip : (v : ℕ) → reached v → IsTree board wires reached terminals
      → IsTree board wires reached (λ t. (t ≡ v) ⊎ terminals t)
  IsTree-tip v there tree = record {
    grown = IsGrown-tip board (Contains wires) reached terminals v there tree.grown;
    distinct = tree.distinct;
    one_more = tree.one_more;
  }

  -- from the last terminal x the tree grows by wire e to the FPGA y, which counts as a terminal in place of x
  pub IsTree-more : (e x y s : ℕ) → terminals s → y < board.fpgas → IsHung board reached e x y
      → IsTree board wires reached (λ t. (t ≡ x) ⊎ terminals t)
      → IsTree board (e ∷ wires) (λ f. (f ≡ y) ⊎ reached f) (λ t. (t ≡ y) ⊎ terminals t)
  IsTree-more e x y s root below hung tree = record {
    grown = IsGrown-same board (λ d. Contains wires d ⊎ (e ≡ d)) (Contains (e ∷ wires)) (λ f. (f ≡ y)
        ⊎ reached f) (λ f. (f ≡ y) ⊎ reached f) (λ t. (t ≡ y) ⊎ terminals t) (λ t. (t ≡ y) ⊎ terminals t)
        (λ d h. ⊎_elim (λ there. contains-later e d wires there) (λ same. (0, omega arith, same)) h)
        (λ d h. ⊎_elim (λ same. inr same) (λ there. inl there) (contains-cons e d wires h))
        (λ f h. h) (λ f h. h) (λ t h. h) (λ t h. h)
        (IsGrown-more board (Contains wires) reached terminals e x y tree.grown hung s root);
    distinct = AllPairs-cons (λ c d. c ≢ d) e wires
        (all-other e wires (λ h. hung.fresh (tree.grown.within e y x h (Links-sym board e x y hung.links))))
        tree.distinct;
    one_more = record {
      fpgas = y ∷ tree.one_more.fpgas;
      count = omega (arith, tree.one_more.count);
      distinct = AllPairs-cons (λ c d. c ≢ d) y tree.one_more.fpgas
          (all-other y tree.one_more.fpgas (λ h. hung.fresh (tree.one_more.there y h)))
          tree.one_more.distinct;
      below = All-cons (λ f. f < board.fpgas) y tree.one_more.fpgas below tree.one_more.below;
      there = λ f h. ⊎_elim (λ same. inl (sym same)) (λ inside. inr (tree.one_more.there f inside))
          (contains-cons y f tree.one_more.fpgas h);
    };
  }

-- where a path begins is on it or reached
branch-start : (board : Board) (reached : ℕ → Type 0) (a : ℕ) (es : List ℕ) → IsBranch board reached a es
    → IsOn board a es a ⊎ reached a
branch-start board reached a [] branch = inr branch
branch-start board reached a (e ∷ es) branch = inl (inl refl)

-- the tree grows by a path
pub IsTree-branch : (board : Board) (wires : List ℕ) (reached terminals : ℕ → Type 0) (s : ℕ) → terminals s
    → ((e a b : ℕ) → Links board e a b → a < board.fpgas) → IsTree board wires reached terminals
    → (a : ℕ) (es : List ℕ) → IsBranch board reached a es
    → IsTree board (es ++ wires) (λ f. IsOn board a es f ⊎ reached f) (λ t. (t ≡ a) ⊎ terminals t)
IsTree-branch board wires reached terminals s root below tree a [] branch =
    IsTree-same board wires reached (λ t. (t ≡ a) ⊎ terminals t) (λ f. IsOn board a [] f ⊎ reached f)
    (λ t. (t ≡ a) ⊎ terminals t)
    (λ f h. inr h) (λ f h. ⊎_elim (λ none. absurd none) (λ there. there) h) (λ t h. h) (λ t h. h)
    (IsTree-tip board wires reached terminals a branch tree)
IsTree-branch board wires reached terminals s root below tree a (e ∷ es) branch =
    let x : ℕ = branch.1.0 in
    let links : Links board e a x = branch.1.1 in
    let rest : IsTree board (es ++ wires) (λ f. IsOn board x es f ⊎ reached f) (λ t. (t ≡ x) ⊎ terminals t) =
    IsTree-branch board wires reached terminals s root below tree x es branch.1.2 in
    let hung : IsHung board (λ f. IsOn board x es f ⊎ reached f) e x a = record {
      links = Links-sym board e a x links;
      there = branch-start board reached x es branch.1.2;
      fresh = λ h. ⊎_elim branch.1.3 branch.0 h;
    } in
    IsTree-same board (e ∷ (es ++ wires)) (λ f. (f ≡ a) ⊎ (IsOn board x es f ⊎ reached f)) (λ t. (t ≡ a)
    ⊎ terminals t) (λ f. IsOn board a (e ∷ es) f ⊎ reached f) (λ t. (t ≡ a) ⊎ terminals t)
    (λ f h. ⊎_elim (λ same. inl (inl (sym same))) (λ k. ⊎_elim (λ on. inl (inr (x, links, on)))
    (λ there. inr there) k) h)
    (λ f h. ⊎_elim (λ k. ⊎_elim (λ same. inl (sym same))
    (λ on. inr (inl (subst (λ (z : ℕ). IsOn board z es f) (other-end board e a on.0 x on.1 links)
    on.2))) k) (λ there. inr (inr there)) h)
    (λ t h. h) (λ t h. h)
    (IsTree-more board (es ++ wires) (λ f. IsOn board x es f ⊎ reached f) terminals e x a s root
    (below e a x links) hung rest)
