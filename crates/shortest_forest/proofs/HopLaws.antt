-- From numbers of hops and nearest wires to parents and their chains.
use Rattle.std.proofs.Common.{◌≡◌, ℕ, zero, suc, ◌+◌, ◌<◌, ◌⊎◌, List, [], ◌∷◌, ◌++◌, Option, Some, None, length, get_or, refl, sym, ap, ◌∙◌, subst, inl, inr, arith}
use Rattle.std.specs.Prelude.{MatchOption, slice_index_or, reverse, All}
use Rattle.std.proofs.lemmas.List.{length-reverse}
use Rattle.std.proofs.lemmas.List.Sums.{sum_by-cons, sum_by-append}
use Rattle.std.proofs.lemmas.List.Elements.{All-get_or}
use Rattle.std.proofs.lemmas.Option.{slice_get_within, get_or_from_slice_get}
use Rattle.tdm_problem.specs.declared.wire.Wire.{Wire}
use Rattle.tdm_problem.specs.Board.{Board, IsWireOf}
use Rattle.tdm_problem.specs.Walk.{Links, IsWalk, AnyWire}
use Rattle.tdm_problem.specs.Distance.{length_of, IsHopCount}
use Rattle.tdm_problem.proofs.Walks.{AnyWire-from_links, IsWalk-append, IsWalk-one, IsWalk-reverse, Links-sym}
use Rattle.shortest_forest.specs.Baseline.{IsParent, IsParentChain}
use Rattle.shortest_forest.specs.Reach.{Reach, HasNoWalk, AreHops, HasHops, distance_of, parent_of}
use Rattle.shortest_forest.specs.BreadthFirst.{IsAt, LeadsNearer, IsFirstNearer}
use Rattle.shortest_forest.proofs.BreadthFirstLaws.{not_none, at_unique, at_below}

-- the number of hops is one number
pub hops_unique : (board : Board) (a b d far : ℕ) → IsHopCount board a b d → IsHopCount board a b far
    → d ≡ far
hops_unique board a b d far h k =
    omega (arith, h.least k.walk.0 k.walk.1, k.walk.2, k.least h.walk.0 h.walk.1, h.walk.2)

-- of wires of length 1 the length is their number
length_of_is : (es : List ℕ) → length_of (λ _. 1) es ≡ length es
length_of_is [] = refl
length_of_is (e ∷ es) = omega (arith, sum_by-cons (λ (_ : ℕ). 1) e es, length_of_is es)

-- wires lead to FPGAs of the board
pub Links-below : (board : Board) → All (IsWireOf board.fpgas) board.wires → (e x y : ℕ) → Links board e x y
    → y < board.fpgas
Links-below board there e x y links =
    let w = All-get_or (IsWireOf board.fpgas) board.wires e links.wire
    (slice_get_within board.wires e links.wire links.is) there in
    let P : Wire → Type 0 = λ v. IsWireOf board.fpgas v in
    go (subst P (get_or_from_slice_get board.wires e links.wire links.wire links.is) w) links.ends
  where
    go : IsWireOf board.fpgas links.wire → ((links.wire.a ≡ x) × (links.wire.b ≡ y))
        ⊎ ((links.wire.a ≡ y) × (links.wire.b ≡ x)) → y < board.fpgas
    go wire (inl ends) = omega (arith, wire.b_there, ends.1)
    go wire (inr ends) = omega (arith, wire.a_there, ends.0)

module _ (board : Board) (source : ℕ) (distances : List (Option ℕ))
    (hops : AreHops board source distances) where
  -- a distance is a number of hops
  pub hops_at : (f d : ℕ) → IsAt distances f d → IsHopCount board source f d
  hops_at f d at =
      let P : Option ℕ → Type 0 = λ x. MatchOption x (HasNoWalk board source f) (IsHopCount board source f) in
      subst P at (hops.exact f (omega (arith, at_below distances f d at, hops.count)))

  -- and a number of hops is a distance
  pub at_hops : (f d : ℕ) → f < board.fpgas → IsHopCount board source f d → IsAt distances f d
  at_hops f d below count = go (get_or distances f None) refl (hops.exact f below)
    where
      go : (x : Option ℕ) → get_or distances f None ≡ x
          → MatchOption x (HasNoWalk board source f) (IsHopCount board source f) → IsAt distances f d
      go None is none = absurd (none count.walk.0 count.walk.1)
      go (Some far) is some = is ∙ ap (λ (n : ℕ). Some n) (hops_unique board source f far d some count)

  -- a walk leads to an FPGA with a distance
  pub at_walk : (f : ℕ) → f < board.fpgas → (es : List ℕ) → IsWalk board (AnyWire board) source es f
      → (d : ℕ) × IsAt distances f d
  at_walk f below es walk = go (get_or distances f None) refl (hops.exact f below)
    where
      go : (x : Option ℕ) → get_or distances f None ≡ x
          → MatchOption x (HasNoWalk board source f) (IsHopCount board source f)
          → (d : ℕ) × IsAt distances f d
      go None is none = absurd (none es walk)
      go (Some d) is some = (d, is)

  -- the source is at distance 0
  pub source_at : source < board.fpgas → IsAt distances source 0
  source_at below =
      let at = at_walk source below [] refl in
      let h = hops_at source at.0 at.1 in
      let zero' : at.0 ≡ 0 = omega (arith, h.least [] refl) in
      subst (IsAt distances source) zero' at.1

  -- and no other FPGA is
  pub at_zero : (f : ℕ) → IsAt distances f 0 → f ≡ source
  at_zero f at = go (hops_at f 0 at)
    where
      walk_empty : (es : List ℕ) → IsWalk board (AnyWire board) source es f → length es ≡ 0 → f ≡ source
      walk_empty [] walk long = sym walk
      walk_empty (e ∷ es) walk long = absurd (omega arith)

      go : IsHopCount board source f 0 → f ≡ source
      go h = walk_empty h.walk.0 h.walk.1 (omega (arith, length_of_is h.walk.0, h.walk.2))

  module _ (there : All (IsWireOf board.fpgas) board.wires) where
    -- the last wire of a shortest walk comes from an FPGA one hop nearer
    nearer_exists : (f d : ℕ) → IsAt distances f (d + 1) → (e : ℕ) × LeadsNearer board distances f e d
    nearer_exists f d at =
        let h = hops_at f (d + 1) at in
        let back = IsWalk-reverse board (AnyWire board) source h.walk.0 f h.walk.1 in
        go h (reverse h.walk.0) back (omega (arith, length-reverse h.walk.0, length_of_is h.walk.0, h.walk.2))
      where
        go : IsHopCount board source f (d + 1) → (es : List ℕ) → IsWalk board (AnyWire board) f es source
            → length es ≡ d + 1 → (e : ℕ) × LeadsNearer board distances f e d
        go h [] walk long = absurd (omega arith)
        go h (e ∷ es) walk long =
            let u = walk.1.0 in
            let links = walk.1.1 in
            let forth = IsWalk-reverse board (AnyWire board) u es source walk.1.2 in
            let size : length_of (λ _. 1) (reverse es) ≡ d = omega (
              arith,
              length_of_is (reverse es),
              length-reverse es,
            ) in
            let count : IsHopCount board source u d = record {
              walk = (reverse es, forth, size);
              least = λ fs other. (let whole =
                  IsWalk-append board (AnyWire board) source fs u (e ∷ []) f other
                  (IsWalk-one board (AnyWire board) e u f (AnyWire-from_links board e f u links)
                  (Links-sym board e f u links)) in
                  omega (arith, h.least (fs ++ e ∷ []) whole, sum_by-append (λ (_ : ℕ). 1) fs (e ∷ [])));
            } in
            (e, (u, links, at_hops u d (Links-below board there e f u links) count, at))

    -- a first nearer wire is the parent wire
    pub IsParent-from_first : (f e : ℕ) → IsFirstNearer board distances f e
        → (u : ℕ) × IsParent board source f e u
    IsParent-from_first f e first =
        let d = first.nearer.0 in
        let near = first.nearer.1 in
        let hop_f = hops_at f (d + 1) near.3 in (
          near.0,
          record {
            links = near.1;
            nearer = (d, hops_at near.0 d near.2, hop_f);
            least = λ c x links closer. (
                let far : closer.0 ≡ d =
                omega (arith, hops_unique board source f (closer.0 + 1) (d + 1) closer.2 hop_f) in
                let P : ℕ → Type 0 = λ n. IsHopCount board source x n in
                first.least c d (
                  x,
                  links,
                  at_hops x d (Links-below board there c f x links) (subst P far closer.1),
                  near.3,
                ));
          },
        )

    -- only the source, and an FPGA without a distance, have no nearer wire
    pub no_nearer : (f : ℕ) → ((e d : ℕ) → LeadsNearer board distances f e d → ⊥) → (f ≡ source)
        ⊎ (get_or distances f None ≡ None)
    no_nearer f none = go (get_or distances f None) refl
      where
        go : (x : Option ℕ) → get_or distances f None ≡ x → (f ≡ source) ⊎ (get_or distances f None ≡ None)
        go None is = inr is
        go (Some zero) is = inl (at_zero f is)
        go (Some (suc d)) is =
            let one : suc d ≡ d + 1 = omega arith in
            let n = nearer_exists f d (is ∙ ap (λ (k : ℕ). Some k) one) in
            absurd (none n.0 d n.1)

-- the parent wires, by their first nearer wires
pub record AreNearest (board : Board) (distances parents : List (Option ℕ)) : Type 0 where
  pub count : length parents ≡ board.fpgas
  pub exact : (f : ℕ) → f < board.fpgas → MatchOption (slice_index_or parents f None) ((e d : ℕ)
      → ¬ LeadsNearer board distances f e d) (λ e. IsFirstNearer board distances f e)

module _ (board : Board) (reach : Reach) (hops : AreHops board reach.root reach.distances)
    (there : All (IsWireOf board.fpgas) board.wires)
    (nearest : AreNearest board reach.distances reach.parents) where
  parents' : (f : ℕ) → f < board.fpgas → MatchOption (parent_of reach f) ((f ≡ reach.root)
      ⊎ (distance_of reach f ≡ None)) (λ e. (u : ℕ) × IsParent board reach.root f e u)
  parents' f below = go (parent_of reach f) (nearest.exact f below)
    where
      go : (x : Option ℕ) → MatchOption x ((e d : ℕ) → ¬ LeadsNearer board reach.distances f e d)
          (λ e. IsFirstNearer board reach.distances f e)
          → MatchOption x ((f ≡ reach.root) ⊎ (distance_of reach f ≡ None)) (λ e. (u : ℕ)
          × IsParent board reach.root f e u)
      go None none = no_nearer board reach.root reach.distances hops there f none
      go (Some e) first = IsParent-from_first board reach.root reach.distances hops there f e first

  -- a chain is as long as the distance
  chain_of : (d f : ℕ) → IsAt reach.distances f d → (es : List ℕ)
      × IsParentChain board reach.root f es reach.root × (length es ≡ d)
  chain_of zero f at = ([], at_zero board reach.root reach.distances hops f at, refl)
  chain_of (suc d) f at = by (parent_of reach f) (parents' f below) (chain_of d)
    where
      below : f < board.fpgas
      below = omega (arith, at_below reach.distances f (suc d) at, hops.count)

      by : (x : Option ℕ) → MatchOption x ((f ≡ reach.root) ⊎ (distance_of reach f ≡ None)) (λ e. (u : ℕ)
          × IsParent board reach.root f e u) → ((u : ℕ) → IsAt reach.distances u d → (es : List ℕ)
          × IsParentChain board reach.root u es reach.root × (length es ≡ d)) → (es : List ℕ)
          × IsParentChain board reach.root f es reach.root × (length es ≡ suc d)
      by None (inl same) later =
          let P : ℕ → Type 0 = λ n. IsAt reach.distances n (suc d) in
          let zero' = at_unique reach.distances reach.root (suc d) 0 (subst P same at)
          (source_at board reach.root reach.distances hops (omega (arith, below, same))) in
          absurd (omega (arith, zero'))
      by None (inr none) later = not_none (distance_of reach f) (suc d) none at
      by (Some e) p later =
          let near = p.1.nearer in
          let hop_f = hops_at board reach.root reach.distances hops f (suc d) at in
          let same : near.0 ≡ d =
          omega (arith, hops_unique board reach.root f (near.0 + 1) (suc d) near.2 hop_f) in
          let hop_u : IsHopCount board reach.root p.0 d =
          subst (λ (n : ℕ). IsHopCount board reach.root p.0 n) same near.1 in
          let at_u = at_hops board reach.root reach.distances hops p.0 d
          (Links-below board there e f p.0 p.1.links) hop_u in
          let rest = later p.0 at_u in
          (e ∷ rest.0, (p.0, p.1, rest.1), omega (arith, rest.2))

  -- the distances and parents of a search make a forest of the board
  pub HasHops-made : reach.root < board.fpgas → ((f d : ℕ) → IsAt reach.distances f d → d < board.fpgas)
      → HasHops board reach
  HasHops-made below few = record {
    root = below;
    distances = hops;
    count = nearest.count;
    parents = parents';
    chains = λ f d at. (let c = chain_of d f at in (c.0, c.1, c.2, few f d at));
  }
