-- A walk in a set of wires can be had in which no wire comes twice, so that it is no longer than the set.
use Rattle.std.proofs.Common.{◌≡◌, ◌≢◌, ◌⊎◌, ℕ, suc, ◌+◌, ◌≤◌, List, [], ◌∷◌, sym, ◌∙◌, subst, inl, inr, ⊎_elim, arith}
use Rattle.std.specs.Prelude.{sum_by, Contains}
use Rattle.std.proofs.lemmas.List.Sums.{sum_by-cons}
use Rattle.tdm_problem.specs.Board.{Board}
use Rattle.tdm_problem.specs.Walk.{Links, IsWalk}
use Rattle.tdm_problem.specs.Distance.{length_of}
use Rattle.shortest_forest.proofs.BaselineLaws.{contains-head, contains-cons, ends-same}
use Rattle.steiner_build.specs.Growth.{IsApart}
use Rattle.steiner_build.proofs.GrowthLaws.{same_or_other}

-- a number is in the list, or not
in_or_out : (e : ℕ) (es : List ℕ) → Contains es e ⊎ (Contains es e → ⊥)
in_or_out e [] = inr (λ h. omega (arith, h.1))
in_or_out e (d ∷ es) = by (same_or_other d e) (in_or_out e es)
  where
    by : (d ≡ e) ⊎ (d ≢ e) → Contains es e ⊎ (Contains es e → ⊥) → Contains (d ∷ es) e
        ⊎ (Contains (d ∷ es) e → ⊥)
    by (inl same) rest = inl (0, omega arith, same)
    by (inr other) (inl there) = inl (suc there.0, omega (arith, there.1), there.2)
    by (inr other) (inr absent) = inr (λ h. ⊎_elim other absent (contains-cons d e es h))

contains-later : (d e : ℕ) (es : List ℕ) → Contains es e → Contains (d ∷ es) e
contains-later d e es h = (suc h.0, omega (arith, h.1), h.2)

module _ (board : Board) (wires : ℕ → Type 0) where
  -- where a walk has come through wire e, which links a and x, the rest of it begins at one of these
  rest-from : (e a x : ℕ) → Links board e a x → (p b : ℕ) (es : List ℕ) → IsWalk board wires p es b
      → Contains es e → IsApart es
      → (c : ℕ) × ((c ≡ a) ⊎ (c ≡ x)) × ((fs : List ℕ) × IsWalk board wires c fs b × IsApart fs
      × (Contains fs e → ⊥))
  rest-from e a x links p b [] walk there apart = absurd (omega (arith, there.1))
  rest-from e a x links p b (d ∷ es) walk there apart =
      by (contains-cons d e es there) (rest-from e a x links walk.1.0 b es walk.1.2)
    where
      by : (d ≡ e) ⊎ Contains es e → (Contains es e → IsApart es → (c : ℕ) × ((c ≡ a) ⊎ (c ≡ x))
          × ((fs : List ℕ) × IsWalk board wires c fs b × IsApart fs × (Contains fs e → ⊥)))
          → (c : ℕ) × ((c ≡ a) ⊎ (c ≡ x)) × ((fs : List ℕ) × IsWalk board wires c fs b × IsApart fs
          × (Contains fs e → ⊥))
      by (inl same) later = (
        walk.1.0,
        ⊎_elim (λ h. inr (sym h.1)) (λ h. inl (sym h.0))
            (ends-same board e a x p walk.1.0 links
            (subst (λ (c : ℕ). Links board c p walk.1.0) same walk.1.1)),
        (es, walk.1.2, apart.1, (λ h. apart.0 (subst (λ (c : ℕ). Contains es c) (sym same) h))),
      )
      by (inr inside) later = later inside apart.1

  -- a walk in which no wire comes twice
  pub trail : (a b : ℕ) (es : List ℕ) → IsWalk board wires a es b → (fs : List ℕ) × IsWalk board wires a fs b
      × IsApart fs
  trail a b [] walk = ([], walk, tt)
  trail a b (e ∷ es) walk = by (trail walk.1.0 b es walk.1.2)
    where
      by : (fs : List ℕ) × IsWalk board wires walk.1.0 fs b × IsApart fs → (fs : List ℕ)
          × IsWalk board wires a fs b × IsApart fs
      by rest = shorter (in_or_out e rest.0)
        where
          shorter : Contains rest.0 e ⊎ (Contains rest.0 e → ⊥) → (fs : List ℕ) × IsWalk board wires a fs b
              × IsApart fs
          shorter (inr absent) = (e ∷ rest.0, (walk.0, (walk.1.0, walk.1.1, rest.1)), (absent, rest.2))
          shorter (inl there) = from (rest-from e a walk.1.0 walk.1.1 walk.1.0 b rest.0 rest.1 there rest.2)
            where
              from : (c : ℕ) × ((c ≡ a) ⊎ (c ≡ walk.1.0)) × ((fs : List ℕ) × IsWalk board wires c fs b
                  × IsApart fs × (Contains fs e → ⊥)) → (fs : List ℕ) × IsWalk board wires a fs b
                  × IsApart fs
              from (c, inl same, (fs, tail, apart, absent)) =
                  (fs, subst (λ (p : ℕ). IsWalk board wires p fs b) same tail, apart)
              from (c, inr same, (fs, tail, apart, absent)) = (
                e ∷ fs,
                (
                  walk.0,
                  (
                    walk.1.0,
                    walk.1.1,
                    subst (λ (p : ℕ). IsWalk board wires p fs b) same tail,
                  ),
                ),
                (absent, apart),
              )

-- a list without one of its numbers
without : (f : ℕ → ℕ) (e : ℕ) (es : List ℕ) → Contains es e → (fs : List ℕ)
    × (f e + sum_by f fs ≡ sum_by f es) × ((d : ℕ) → Contains es d → e ≢ d → Contains fs d)
without f e [] there = absurd (omega (arith, there.1))
without f e (x ∷ es) there = by (contains-cons x e es there) (without f e es)
  where
    by : (x ≡ e) ⊎ Contains es e → (Contains es e → (fs : List ℕ) × (f e + sum_by f fs ≡ sum_by f es)
        × ((d : ℕ) → Contains es d → e ≢ d → Contains fs d))
        → (fs : List ℕ) × (f e + sum_by f fs ≡ sum_by f (x ∷ es)) × ((d : ℕ) → Contains (x ∷ es) d → e ≢ d
        → Contains fs d)
    by (inl same) later = (
      es,
      subst (λ (c : ℕ). f c + sum_by f es ≡ sum_by f (x ∷ es)) same (sym (sum_by-cons f x es)),
      (λ d h other. ⊎_elim (λ k. absurd (other (sym same ∙ k))) (λ k. k) (contains-cons x d es h)),
    )
    by (inr inside) later =
        let rest = later inside in (
          x ∷ rest.0,
          omega (arith, rest.1, sum_by-cons f x es, sum_by-cons f x rest.0),
          (λ d h other. ⊎_elim (λ k. (0, omega arith, k)) (λ k. contains-later x d rest.0 (rest.2 d k other))
              (contains-cons x d es h)),
        )

-- different numbers of a list sum to no more than the list
pub apart-least : (f : ℕ → ℕ) (es wires : List ℕ) → IsApart es → ((e : ℕ) → Contains es e → Contains wires e)
    → sum_by f es ≤ sum_by f wires
apart-least f [] wires apart inside = omega arith
apart-least f (e ∷ es) wires apart inside =
    let rest = without f e wires (inside e (contains-head e es)) in
    let less : sum_by f es ≤ sum_by f rest.0 = apart-least f es rest.0 apart.1
    (λ d h. rest.2 d (inside d (contains-later e d es h))
    (λ same. apart.0 (subst (λ (c : ℕ). Contains es c) (sym same) h))) in
    omega (arith, less, rest.1, sum_by-cons f e es)

-- the wires of a walk are of the set
walk-inside : (board : Board) (wires : ℕ → Type 0) (a b : ℕ) (es : List ℕ) → IsWalk board wires a es b
    → (e : ℕ) → Contains es e → wires e
walk-inside board wires a b [] walk e there = absurd (omega (arith, there.1))
walk-inside board wires a b (d ∷ es) walk e there =
    ⊎_elim (λ same. subst wires same walk.0)
    (λ inside. walk-inside board wires walk.1.0 b es walk.1.2 e inside) (contains-cons d e es there)

-- wires that join two FPGAs are no shorter than some walk between these
pub walk-within : (board : Board) (f : ℕ → ℕ) (wires : List ℕ) (a b : ℕ) (es : List ℕ)
    → IsWalk board (Contains wires) a es b
    → (fs : List ℕ) × IsWalk board (Contains wires) a fs b × (length_of f fs ≤ length_of f wires)
walk-within board f wires a b es walk =
    let way = trail board (Contains wires) a b es walk in
    (way.0, way.1, apart-least f way.0 wires way.2 (walk-inside board (Contains wires) a b way.0 way.1))
