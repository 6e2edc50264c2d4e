-- What the distances of a search over whole lengths say of a first reach.
use Rattle.std.proofs.Common.{◌≡◌, ℕ, zero, suc, ◌+◌, ◌-◌, ◌<◌, ◌≤◌, ◌⊎◌, List, [], ◌∷◌, Option, None, Some, length, get_or, refl, ap, sym, subst, ◌∙◌, inl, inr, ⊎_elim, arith}
use Rattle.std.specs.Prelude.{Contains, min, IfSome, IfNone}
use Rattle.std.proofs.Math.Nat.{min-eq_left, min-eq_right}
use Rattle.std.proofs.lemmas.Bool.{cases_lt, false≢true}
use Rattle.std.proofs.lemmas.Option.{none-some}
use Rattle.tdm_problem.specs.Board.{Board}
use Rattle.tdm_problem.specs.Walk.{IsConnectable}
use Rattle.shortest_forest.specs.declared.label.Label.{Label}
use Rattle.shortest_forest.specs.Arcs.{Arcs, IsArcWalk}
use Rattle.shortest_forest.specs.Labels.{Labels, label_at, distance_in, IsAtLabel}
use Rattle.shortest_forest.proofs.UnderWay.{distance_unique}
use Rattle.steiner_build.specs.Joining.{HasNoGoals}
use Rattle.bound_cert.specs.Growth.{IsHeight, IsReach}
use Rattle.std.proofs.lemmas.List.{get_or_default}
use Rattle.cert_checker.proofs.Wearing.{IsBefore}
use Rattle.cert_checker.specs.Growing.{height_of, height_in, nearer, HasDistances, HasReached, IsLeastOf}

module _ (s : Labels) (P Q R : ℕ → Type 0) (apart : (f : ℕ) → R f → P f ⊎ Q f) (left : (f : ℕ) → P f → R f)
    (right : (f : ℕ) → Q f → R f) where
  -- the lesser of the least of two lots is the least of both
  pub IsLeastOf-both : (a b : Option ℕ) → IsLeastOf s P a → IsLeastOf s Q b → IsLeastOf s R (nearer a b)
  IsLeastOf-both None None p q = λ f d among at.
      ⊎_elim (λ in_p. p f d in_p at) (λ in_q. q f d in_q at) (apart f among)
  IsLeastOf-both None (Some b) p q = (
    (q.0.0, right q.0.0 q.0.1, q.0.2),
    λ f d among at. ⊎_elim (λ in_p. absurd (p f d in_p at)) (λ in_q. q.1 f d in_q at) (apart f among),
  )
  IsLeastOf-both (Some a) None p q = (
    (p.0.0, left p.0.0 p.0.1, p.0.2),
    λ f d among at. ⊎_elim (λ in_p. p.1 f d in_p at) (λ in_q. absurd (q f d in_q at)) (apart f among),
  )
  IsLeastOf-both (Some a) (Some b) p q = go (cases_lt a b)
    where
      go : (a < b) ⊎ (b ≤ a) → IsLeastOf s R (Some (min a b))
      go (inl less) = subst (λ (d : ℕ). IsLeastOf s R (Some d)) (sym (min-eq_left (omega (arith, less)))) (
        (p.0.0, left p.0.0 p.0.1, p.0.2),
        λ f d among at. ⊎_elim (λ in_p. p.1 f d in_p at) (λ in_q. omega (arith, less, q.1 f d in_q at))
            (apart f among),
      )
      go (inr more) = subst (λ (d : ℕ). IsLeastOf s R (Some d)) (sym (min-eq_right more)) (
        (q.0.0, right q.0.0 q.0.1, q.0.2),
        λ f d among at. ⊎_elim (λ in_p. omega (arith, more, p.1 f d in_p at)) (λ in_q. q.1 f d in_q at)
            (apart f among),
      )

-- the distance of one is the least of it alone
pub IsLeastOf-one : (s : Labels) (x : ℕ) (found : Option ℕ) → found ≡ distance_in (label_at s x)
    → IsLeastOf s (λ f. f ≡ x) found
IsLeastOf-one s x found is = subst (IsLeastOf s (λ f. f ≡ x)) (sym is) (go (label_at s x) refl)
  where
    go : (label : Option Label) → label_at s x ≡ label → IsLeastOf s (λ f. f ≡ x) (distance_in label)
    go None at = λ f d same has.
        absurd (none-some (record { distance = d; wire = has.0 }) (sym at ∙ ap (label_at s) (sym same) ∙ has.1))
    go (Some label) at = (
      (x, refl, (label.wire, at)),
      λ f d same has. omega (
        arith,
        distance_unique s x label.distance d (label.wire, at) (has.0, ap (label_at s) (sym same) ∙ has.1),
      ),
    )

-- the root and the first k FPGAs of a list
abbrev pub IsEarly : (root : ℕ) → (fpgas : List ℕ) → (k f : ℕ) → Type 0
IsEarly root fpgas k f = (f ≡ root) ⊎ IsBefore fpgas k f

module _ (s : Labels) (root : ℕ) (fpgas : List ℕ) where
  pub least-of-first : (found : Option ℕ) → found ≡ distance_in (label_at s root)
      → IsLeastOf s (IsEarly root fpgas 0) found
  least-of-first found is = IsLeastOf-both s (IsBefore fpgas 0) (λ f. f ≡ root) (IsEarly root fpgas 0)
      (λ f early. ⊎_elim (λ (at : f ≡ root). inr at) (λ before. inl before) early)
      (λ f before. inr before) (λ f at. inl at) None found
      (λ f d before at. absurd (omega (arith, before.1))) (IsLeastOf-one s root found is)

  pub least-of-more : (k : ℕ) (least found : Option ℕ) → k < length fpgas
      → found ≡ distance_in (label_at s (get_or fpgas k 0)) → IsLeastOf s (IsEarly root fpgas k) least
      → IsLeastOf s (IsEarly root fpgas (k + 1)) (nearer least found)
  least-of-more k least found inside is before = IsLeastOf-both s (IsEarly root fpgas k)
      (λ f. f ≡ get_or fpgas k 0) (IsEarly root fpgas (k + 1)) apart
      (λ f early. ⊎_elim (λ (at : f ≡ root). inl at)
      (λ (was : IsBefore fpgas k f). inr (was.0, omega (arith, was.1), was.2, was.3)) early)
      (λ f same. inr (k, omega arith, inside, sym same))
      least found before (IsLeastOf-one s (get_or fpgas k 0) found is)
    where
      apart : (f : ℕ) → IsEarly root fpgas (k + 1) f → IsEarly root fpgas k f ⊎ (f ≡ get_or fpgas k 0)
      apart f (inl at) = inl (inl at)
      apart f (inr (j, less, below, same)) = go (cases_lt j k)
        where
          go : (j < k) ⊎ (k ≤ j) → IsEarly root fpgas k f ⊎ (f ≡ get_or fpgas k 0)
          go (inl earlier) = inl (inr (j, earlier, below, same))
          go (inr last) =
              let even : j ≡ k = omega (arith, less, last) in
              inr (sym same ∙ ap (λ (i : ℕ). get_or fpgas i 0) even)

  early-all : (k : ℕ) → length fpgas ≤ k → (f : ℕ) → Contains (root ∷ fpgas) f → IsEarly root fpgas k f
  early-all k past f (zero, inside, is) = inl (sym is)
  early-all k past f (suc j, inside, is) =
      let below : j < length fpgas = omega (arith, inside) in
      inr (j, omega (arith, below, past), below, get_or_default fpgas j 0 f below ∙ is)

  pub least-of-all : (k : ℕ) (least : Option ℕ) → length fpgas ≤ k → IsLeastOf s (IsEarly root fpgas k) least
      → IsLeastOf s (Contains (root ∷ fpgas)) least
  least-of-all k None past before = λ f d there. before f d (early-all k past f there)
  least-of-all k (Some least) past before = (
    (before.0.0, listed before.0.0 before.0.1, before.0.2),
    λ f d there. before.1 f d (early-all k past f there),
  )
    where
      listed : (f : ℕ) → IsEarly root fpgas k f → Contains (root ∷ fpgas) f
      listed f (inl at) = (0, omega arith, sym at)
      listed f (inr (j, less, below, same)) =
          (suc j, omega (arith, below), get_or_default fpgas j f 0 below ∙ same)

-- a search without goals reaches none, and settles all
pub nothing-reached : (board : Board) (arcs : Arcs) (x : ℕ) (s : Labels) (found : Option ℕ)
    → HasNoGoals s.goals → IfSome found (HasReached board arcs x s)
    → IfNone found (HasDistances board arcs x s) → HasDistances board arcs x s
nothing-reached board arcs x s None unmarked reached has = has
nothing-reached board arcs x s (Some reach) unmarked reached has =
    let live : List ℕ = [] in
    let is = reached.reaches live (λ f. (
      λ on. absurd (false≢true (sym (unmarked f) ∙ on)),
      λ there. absurd (omega (arith, there.1)),
    )) in
    absurd (omega (arith, is.listed.1))

module _ (board : Board) (arcs : Arcs) (x : ℕ) (s : Labels) (has : HasDistances board arcs x s) where
  -- the least distance is the reach
  reach-of : (live : List ℕ) (reach : ℕ) → IsLeastOf s (Contains live) (Some reach)
      → IsReach board arcs x live reach
  reach-of live reach least = record {
    nearest = nearest;
    listed = least.0.1;
    way = go (has.heights (reach + 1) nearest (omega (arith, has.below nearest reach at))).exact;
    least = λ f es total there walk. on f es total there (label_at s f) refl
        ((has.heights reach f (omega (arith, has.below nearest reach at))).enough es total walk);
  }
    where
      nearest : ℕ
      nearest = least.0.0

      at : IsAtLabel s nearest reach
      at = least.0.2

      here : height_in s (reach + 1) nearest ≡ reach + 1 - reach
      here = ap (λ (label : Option Label). height_of label (reach + 1)) at.1

      go : (height_in s (reach + 1) nearest ≡ 0)
          ⊎ ((es : List ℕ) × ((total : ℕ) × IsArcWalk board arcs x es nearest total
          × (height_in s (reach + 1) nearest + total ≡ reach + 1)))
          → (es : List ℕ) × IsArcWalk board arcs x es nearest reach
      go (inl low) = absurd (omega (arith, here, low))
      go (inr (es, (total, walk, sum))) =
          let same : total ≡ reach = omega (arith, here, sum) in
          (es, subst (λ (t : ℕ). IsArcWalk board arcs x es nearest t) same walk)

      on : (f : ℕ) (es : List ℕ) (total : ℕ) → Contains live f → (label : Option Label) → label_at s f ≡ label
          → reach ≤ height_in s reach f + total → reach ≤ total
      on f es total there None is enough =
          omega (arith, enough, ap (λ (l : Option Label). height_of l reach) is)
      on f es total there (Some label) is enough = omega (
        arith,
        enough,
        ap (λ (l : Option Label). height_of l reach) is,
        least.1 f label.distance there (label.wire, is),
      )

  -- and so are the heights
  heights-of : (live : List ℕ) (reach : ℕ) → IsLeastOf s (Contains live) (Some reach) → (f : ℕ)
      → IsHeight board arcs x reach f (height_in s reach f)
  heights-of live reach least f = has.heights reach f (omega (arith, has.below least.0.0 reach least.0.2))

  -- the least distance, or None, tells how far a first FPGA reaches
  pub reached-first : (live : List ℕ) (found : Option ℕ) → IsLeastOf s (Contains live) found
      → IfSome found (IsReach board arcs x live)
  reached-first live None least = tt
  reached-first live (Some reach) least = reach-of live reach least

  pub heights-first : (live : List ℕ) (found : Option ℕ) → IsLeastOf s (Contains live) found
      → IfSome found (λ reach. (f : ℕ) → IsHeight board arcs x reach f (height_in s reach f))
  heights-first live None least = tt
  heights-first live (Some reach) least = heights-of live reach least

  pub apart-first : (root : ℕ) (later : List ℕ) (found : Option ℕ) → root < board.fpgas
      → IsLeastOf s (Contains (root ∷ later)) found → IfNone found (¬ IsConnectable board (root ∷ x ∷ later))
  apart-first root later (Some reach) below least = tt
  apart-first root later None below none = λ joins.
      let walk = joins x root (1, omega arith, refl) (0, omega arith, refl) in
      let at = has.there root walk.0 below walk.1 in
      none root at.0 (0, omega arith, refl) at.1
