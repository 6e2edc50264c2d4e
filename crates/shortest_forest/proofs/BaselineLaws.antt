-- What follows from the definition of baseline trees.
use Rattle.std.proofs.Common.{◌≡◌, ◌≢◌, ◌⊎◌, ℕ, zero, suc, ◌+◌, ◌<◌, ◌≤◌, List, [], ◌∷◌, ◌++◌, slice_index_or, refl, sym, ap, subst, ◌∙◌, inl, inr, arith, Contains, Some}
use Rattle.std.specs.List.Sorted.{IsStrictlyIncreasing}
use Rattle.std.proofs.lemmas.List.Kept.{AllPairs-from_increasing}
use native.Mathlib.Numerals.{unary_clauses}
use Rattle.tdm_problem.specs.declared.wire.Wire.{Wire}
use Rattle.tdm_problem.specs.Board.{Board}
use Rattle.tdm_problem.specs.Walk.{Links, IsWalk, Joins, IsMinimalTree}
use Rattle.shortest_forest.specs.Baseline.{IsParent, IsParentChain, IsBaseTree}

-- ---- elements of lists

pub contains-head : (x : ℕ) (xs : List ℕ) → Contains (x ∷ xs) x
contains-head x xs = (0, omega arith, refl)

contains-tail : (x y : ℕ) (xs : List ℕ) → Contains xs y → Contains (x ∷ xs) y
contains-tail x y xs h = (suc h.0, omega (arith, h.1), h.2)

pub contains-cons : (x y : ℕ) (xs : List ℕ) → Contains (x ∷ xs) y → (x ≡ y) ⊎ Contains xs y
contains-cons x y xs (zero, h, e) = inl e
contains-cons x y xs (suc k, h, e) = inr (k, omega (arith, h), e)

-- ---- wires and walks

-- a wire joins its ends either way
pub links-other : (board : Board) (e a b : ℕ) → Links board e a b → Links board e b a
links-other board e a b l = record { wire = l.wire; is = l.is; ends = swapped l.ends }
  where
    swapped : ((l.wire.a ≡ a) × (l.wire.b ≡ b)) ⊎ ((l.wire.a ≡ b) × (l.wire.b ≡ a))
        → ((l.wire.a ≡ b) × (l.wire.b ≡ a)) ⊎ ((l.wire.a ≡ a) × (l.wire.b ≡ b))
    swapped (inl h) = inr h
    swapped (inr h) = inl h

some-same : {A : Type 0} (x y : A) → Some x ≡ Some y → x ≡ y
some-same x y h = cc

-- a wire's two ends are the same two FPGAs
pub ends-same : (board : Board) (e a b p q : ℕ) → Links board e a b → Links board e p q → ((a ≡ p) × (b ≡ q))
    ⊎ ((a ≡ q) × (b ≡ p))
ends-same board e a b p q l m = by l.ends m.ends
  where
    same : l.wire ≡ m.wire
    same = some-same l.wire m.wire (sym l.is ∙ m.is)

    same_a : l.wire.a ≡ m.wire.a
    same_a = ap (λ (w : Wire). w.a) same

    same_b : l.wire.b ≡ m.wire.b
    same_b = ap (λ (w : Wire). w.b) same

    by : ((l.wire.a ≡ a) × (l.wire.b ≡ b)) ⊎ ((l.wire.a ≡ b) × (l.wire.b ≡ a))
        → ((m.wire.a ≡ p) × (m.wire.b ≡ q)) ⊎ ((m.wire.a ≡ q) × (m.wire.b ≡ p)) → ((a ≡ p) × (b ≡ q))
        ⊎ ((a ≡ q) × (b ≡ p))
    by (inl h) (inl k) = inl (sym h.0 ∙ same_a ∙ k.0, sym h.1 ∙ same_b ∙ k.1)
    by (inl h) (inr k) = inr (sym h.0 ∙ same_a ∙ k.0, sym h.1 ∙ same_b ∙ k.1)
    by (inr h) (inl k) = inr (sym h.1 ∙ same_b ∙ k.1, sym h.0 ∙ same_a ∙ k.0)
    by (inr h) (inr k) = inl (sym h.1 ∙ same_b ∙ k.1, sym h.0 ∙ same_a ∙ k.0)

-- from one end the other end is one FPGA
pub other-end : (board : Board) (e v u x : ℕ) → Links board e v u → Links board e v x → u ≡ x
other-end board e v u x l m = by (ends-same board e v u v x l m)
  where
    by : ((v ≡ v) × (u ≡ x)) ⊎ ((v ≡ x) × (u ≡ v)) → u ≡ x
    by (inl h) = h.1
    by (inr h) = h.1 ∙ h.0

module _ (board : Board) (wires : ℕ → Type 0) where
  -- one walk after another
  walk-append : (a b c : ℕ) (ds es : List ℕ) → IsWalk board wires a ds b → IsWalk board wires b es c
      → IsWalk board wires a (ds ++ es) c
  walk-append a b c [] es h k = subst (λ x. IsWalk board wires x es c) (sym h) k
  walk-append a b c (d ∷ ds) es h k = (h.0, (h.1.0, h.1.1, walk-append h.1.0 b c ds es h.1.2 k))

  -- a walk the other way
  walk-back : (a b : ℕ) (es : List ℕ) → IsWalk board wires a es b → (ds : List ℕ) × IsWalk board wires b ds a
  walk-back a b [] h = ([], sym h)
  walk-back a b (e ∷ es) h =
      let rest = walk-back h.1.0 b es h.1.2 in (
        rest.0 ++ e ∷ [],
        walk-append b h.1.0 a rest.0 (e ∷ []) rest.1 (
          h.0,
          (a, links-other board e a h.1.0 h.1.1, refl),
        ),
      )

-- ---- parents

module _ (board : Board) (source : ℕ) where
  -- an FPGA has one parent wire
  pub parent-wire-unique : (v d e x y : ℕ) → IsParent board source v d x → IsParent board source v e y → d ≡ e
  parent-wire-unique v d e x y p q = omega (arith, p.least e y q.links q.nearer, q.least d x p.links p.nearer)

  -- and one parent
  pub parent-unique : (v e x y : ℕ) → IsParent board source v e x → IsParent board source v e y → x ≡ y
  parent-unique v e x y p q = other-end board e v x y p.links q.links

  -- the source has none
  pub source-has-no-parent : (e x : ℕ) → IsParent board source source e x → ⊥
  source-has-no-parent e x p = let near : p.nearer.0 + 1 ≤ 0 = p.nearer.2.least [] refl in
      absurd (omega (arith, near))

  -- a chain is a walk in its wires
  chain-is-walk : (wires : ℕ → Type 0) (v u : ℕ) (es : List ℕ) → IsParentChain board source v es u
      → ((e : ℕ) → Contains es e → wires e) → IsWalk board wires v es u
  chain-is-walk wires v u [] h inside = h
  chain-is-walk wires v u (e ∷ es) h inside = (
    inside e (contains-head e es),
    (h.0, h.1.links, chain-is-walk wires h.0 u es h.2 (λ d k. inside d (contains-tail e d es k))),
  )

  -- a wire of a chain is the parent wire of an FPGA to which the chain leads
  chain-passes : (t u e : ℕ) (es : List ℕ) → IsParentChain board source t es u → Contains es e
      → (v : ℕ) × (x : ℕ) × IsParent board source v e x × ((ds : List ℕ) × IsParentChain board source t ds v)
  chain-passes t u e [] h k = absurd (omega (arith, k.1))
  chain-passes t u e (d ∷ es) h k = by (contains-cons d e es k) (chain-passes h.0 u e es h.2)
    where
      by : (d ≡ e) ⊎ Contains es e → (Contains es e → (v : ℕ) × (x : ℕ) × IsParent board source v e x
          × ((ds : List ℕ) × IsParentChain board source h.0 ds v)) → (v : ℕ) × (x : ℕ)
          × IsParent board source v e x × ((ds : List ℕ) × IsParentChain board source t ds v)
      by (inl same) later = (t, h.0, subst (λ w. IsParent board source t w h.0) same h.1, ([], refl))
      by (inr there) later =
          let found = later there in
          (found.0, found.1, found.2, (d ∷ found.3.0, (h.0, h.1, found.3.1)))

-- ---- a baseline tree joins its FPGAs

module _ (board : Board) (source : ℕ) (fpgas wires : List ℕ) (rooted : Contains fpgas source)
    (tree : IsBaseTree board source fpgas wires) where
  to-source : (t : ℕ) → Contains fpgas t → (es : List ℕ) × IsWalk board (Contains wires) t es source
  to-source t h =
      let chain = tree.reached t h in (
        chain.0,
        chain-is-walk board source (Contains wires) t source chain.0 chain.1
            (λ e k. (tree.exact e).1 (t, h, (chain.0, chain.1, k))),
      )

  tree-joins : Joins board (Contains wires) fpgas
  tree-joins a b ha hb =
      let there = to-source a ha in
      let away = to-source b hb in
      let back = walk-back board (Contains wires) b source away.0 away.1 in
      (there.0 ++ back.0, walk-append board (Contains wires) a source b there.0 back.0 there.1 back.1)

  -- ---- and no longer does without one of its wires

  module _ (v e x : ℕ) (cut : IsParent board source v e x) where
    -- the parent chain of an FPGA leads through v
    IsBelow : ℕ → Type 0
    IsBelow a = (es : List ℕ) × IsParentChain board source a es v

    IsLeft : ℕ → Type 0
    IsLeft d = Contains wires d × (d ≢ e)

    -- an FPGA's parent is below v where the FPGA is, unless the FPGA is v itself
    parent-below : (p q d : ℕ) → IsParent board source p d q → d ≢ e → IsBelow p → IsBelow q
    unfolding IsBelow
    parent-below p q d h other ([], same) =
        absurd (other (parent-wire-unique board source v d e q x
        (subst (λ w. IsParent board source w d q) same h) cut))
    parent-below p q d h other (c ∷ es, (y, first, later)) =
        let same_wire = parent-wire-unique board source p c d y q first h in
        let same_end = parent-unique board source p d y q
        (subst (λ w. IsParent board source p w y) same_wire first) h in
        (es, subst (λ w. IsParentChain board source w es v) same_end later)

    below-parent : (p q d : ℕ) → IsParent board source p d q → IsBelow q → IsBelow p
    unfolding IsBelow
    below-parent p q d h below = (d ∷ below.0, (q, h, below.1))

    -- along a wire that is left, both ends are below v, or neither
    wire-keeps : (a b d : ℕ) → IsLeft d → Links board d a b → IsBelow a → IsBelow b
    unfolding IsLeft
    wire-keeps a b d left links below =
        let on = (tree.exact d).0 left.0 in
        let found = chain-passes board source on.0 source d on.2.0 on.2.1 on.2.2 in
        by found.0 found.1 found.2 (ends-same board d a b found.0 found.1 links found.2.links)
      where
        by : (p q : ℕ) → IsParent board source p d q → ((a ≡ p) × (b ≡ q)) ⊎ ((a ≡ q) × (b ≡ p)) → IsBelow b
        by p q h (inl k) = subst IsBelow (sym k.1) (parent-below p q d h left.1 (subst IsBelow k.0 below))
        by p q h (inr k) = subst IsBelow (sym k.1) (below-parent p q d h (subst IsBelow k.0 below))

    walk-keeps : (a b : ℕ) (es : List ℕ) → IsWalk board IsLeft a es b → IsBelow a → IsBelow b
    walk-keeps a b [] h below = subst IsBelow h below
    walk-keeps a b (d ∷ es) h below = walk-keeps h.1.0 b es h.1.2 (wire-keeps a h.1.0 d h.0 h.1.1 below)

    source-not-below : IsBelow source → ⊥
    unfolding IsBelow
    source-not-below ([], same) =
        source-has-no-parent board source e x (subst (λ w. IsParent board source w e x) (sym same) cut)
    source-not-below (c ∷ es, (y, first, later)) = source-has-no-parent board source c y first

  tree-needs : (e : ℕ) → Contains wires e → ¬ Joins board (λ d. Contains wires d × (d ≢ e)) fpgas
  unfolding IsLeft IsBelow
  tree-needs e h joins =
      let on = (tree.exact e).0 h in
      let found = chain-passes board source on.0 source e on.2.0 on.2.1 on.2.2 in
      let walk = joins on.0 source on.1 rooted in
      source-not-below found.0 e found.1 found.2
      (walk-keeps found.0 e found.1 found.2 on.0 source walk.0 walk.1 found.3)

  -- a baseline tree is a minimal tree
  pub base-tree-minimal : IsMinimalTree board wires fpgas
  base-tree-minimal = record { joins = tree-joins; needs = tree-needs }

-- ---- there is one baseline tree

tail-rising : (x : ℕ) (xs : List ℕ) → IsStrictlyIncreasing (x ∷ xs) → IsStrictlyIncreasing xs
tail-rising x xs rising k h = simp unary_clauses (simp unary_clauses at (rising (suc k) (omega (arith, h))))

-- the first of a rising list is below all others
head-below : (x e : ℕ) (xs : List ℕ) → IsStrictlyIncreasing (x ∷ xs) → Contains xs e → x < e
head-below x e xs rising h =
    let below : x < slice_index_or xs h.0 e = AllPairs-from_increasing (x ∷ xs) rising 0 (suc h.0) e
    (omega arith) (omega (arith, h.1)) in
    rw h.2 at below

-- two rising lists with the same elements are the same list
pub rising-same : (xs ys : List ℕ) → IsStrictlyIncreasing xs → IsStrictlyIncreasing ys
    → ((e : ℕ) → Contains xs e → Contains ys e) → ((e : ℕ) → Contains ys e → Contains xs e) → xs ≡ ys
rising-same [] [] rx ry to from = refl
rising-same [] (y ∷ ys) rx ry to from = let none = from y (contains-head y ys) in
    absurd (omega (arith, none.1))
rising-same (x ∷ xs) [] rx ry to from = let none = to x (contains-head x xs) in absurd (omega (arith, none.1))
rising-same (x ∷ xs) (y ∷ ys) rx ry to from =
    let heads : x ≡ y = same-heads (contains-cons y x ys (to x (contains-head x xs)))
    (contains-cons x y xs (from y (contains-head y ys))) in
    let tails : xs ≡ ys = rising-same xs ys (tail-rising x xs rx) (tail-rising y ys ry)
    (λ e h. keep y x e ys (sym heads) (contains-cons y e ys (to e (contains-tail x e xs h)))
    (head-below x e xs rx h))
    (λ e h. keep x y e xs heads (contains-cons x e xs (from e (contains-tail y e ys h)))
    (head-below y e ys ry h)) in
    cc
  where
    same-heads : (y ≡ x) ⊎ Contains ys x → (x ≡ y) ⊎ Contains xs y → x ≡ y
    same-heads (inl h) k = sym h
    same-heads (inr h) (inl k) = k
    same-heads (inr h) (inr k) = let a = head-below y x ys ry h in let b = head-below x y xs rx k in
        absurd (omega (arith, a, b))

    keep : (first other e : ℕ) (rest : List ℕ) → first ≡ other → (first ≡ e) ⊎ Contains rest e → other < e
        → Contains rest e
    keep first other e rest same (inl h) above = absurd (omega (arith, same, h, above))
    keep first other e rest same (inr h) above = h

pub base-tree-unique : (board : Board) (source : ℕ) (fpgas xs ys : List ℕ) → IsBaseTree board source fpgas xs
    → IsBaseTree board source fpgas ys → xs ≡ ys
base-tree-unique board source fpgas xs ys s t =
    rising-same xs ys s.rising t.rising (λ e h. (t.exact e).1 ((s.exact e).0 h))
    (λ e h. (s.exact e).1 ((t.exact e).0 h))
