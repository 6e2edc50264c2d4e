-- A grown tree is a minimal tree.
use Rattle.std.proofs.Common.{◌≡◌, ◌⊎◌, ℕ, suc, ◌<◌, List, [], ◌∷◌, ◌++◌, length, refl, sym, subst, inl, inr, ⊎_elim, arith}
use Rattle.std.specs.Prelude.{Contains}
use Rattle.std.proofs.lemmas.List.{append-nil}
use Rattle.tdm_problem.specs.Board.{Board}
use Rattle.tdm_problem.specs.Walk.{IsMinimalTree}
use Rattle.shortest_forest.proofs.BaselineLaws.{contains-cons}
use Rattle.steiner_build.specs.Growth.{IsTree, IsOn, IsBranch}
use Rattle.steiner_build.specs.Laws.{StaysInside}
use Rattle.steiner_build.proofs.TreeLaws.{IsTree-one, IsTree-same, IsTree-branch}

minimal-grown : (board : Board) (wires terminals : List ℕ) (reached : ℕ → Type 0)
    → IsTree board wires reached (Contains terminals) → IsMinimalTree board wires terminals
minimal-grown board wires terminals reached tree = record {
  joins = λ a b ha hb. tree.grown.joined a b (tree.grown.inside a ha) (tree.grown.inside b hb);
  needs = tree.grown.needs;
}

grown-more : (board : Board) (wires : List ℕ) (reached : ℕ → Type 0) (terminals : List ℕ) (s : ℕ)
    → Contains terminals s → StaysInside board → IsTree board wires reached (Contains terminals)
    → (t : ℕ) (es : List ℕ) → IsBranch board reached t es → IsMinimalTree board (es ++ wires) (t ∷ terminals)
grown-more board wires reached terminals s root inside tree t es branch =
    minimal-grown board (es ++ wires) (t ∷ terminals) (λ f. IsOn board t es f ⊎ reached f)
    (IsTree-same board (es ++ wires) (λ f. IsOn board t es f ⊎ reached f) (λ u. (u ≡ t)
    ⊎ Contains terminals u) (λ f. IsOn board t es f ⊎ reached f) (Contains (t ∷ terminals))
    (λ f h. h) (λ f h. h)
    (λ u h. ⊎_elim (λ same. (0, omega arith, sym same)) (λ there. (
      suc there.0,
      omega (arith, there.1),
      there.2,
    )) h)
    (λ u h. ⊎_elim (λ same. inl (sym same)) (λ there. inr there) (contains-cons t u terminals h))
    (IsTree-branch board wires reached (Contains terminals) s root inside tree t es branch))

pub growth-law : (board : Board) (wires fpgas terminals : List ℕ) → StaysInside board → 0 < length terminals
    → IsTree board wires (Contains fpgas) (Contains terminals) → (t : ℕ) (es : List ℕ)
    → IsBranch board (Contains fpgas) t es → IsMinimalTree board (es ++ wires) (t ∷ terminals)
growth-law board wires fpgas [] inside some tree t es branch = absurd (omega arith)
growth-law board wires fpgas (s ∷ terminals) inside some tree t es branch =
    grown-more board wires (Contains fpgas) (s ∷ terminals) s (0, omega arith, refl) inside tree t es branch

pub path-law : (board : Board) → StaysInside board → (a b : ℕ) (es : List ℕ) → b < board.fpgas
    → IsBranch board (λ f. f ≡ b) a es → IsMinimalTree board es (a ∷ b ∷ [])
path-law board inside a b es below branch =
    let one = IsTree-same board [] (λ f. f ≡ b) (λ t. t ≡ b) (λ f. f ≡ b) (Contains (b ∷ [])) (λ f h. h)
    (λ f h. h)
    (λ t h. (0, omega arith, sym h))
    (λ t h. ⊎_elim (λ same. sym same) (λ none. absurd (omega (arith, none.1))) (contains-cons b t [] h))
    (IsTree-one board b below) in
    let P : List ℕ → Type 0 = λ xs. IsMinimalTree board xs (a ∷ b ∷ []) in
    subst P (append-nil es) (grown-more board [] (λ f. f ≡ b) (b ∷ []) b (
      0,
      omega arith,
      refl,
    ) inside one a es branch)
