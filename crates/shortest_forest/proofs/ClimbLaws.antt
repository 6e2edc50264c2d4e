-- What is kept while parent chains are collected, and that they make the baseline tree.
use Rattle.std.proofs.Common.{◌≡◌, ◌≢◌, ℕ, ◌+◌, ◌<◌, ◌≤◌, ◌⊎◌, Bool, true, false, eqb, List, [], ◌∷◌, ◌++◌, Option, Some, None, length, get_or, set, slice_index, refl, sym, ap, ◌∙◌, subst, inl, inr, arith, Contains, get_or-set_same, get_or-set_other}
use Rattle.std.specs.Prelude.{MatchOption, All, AllPairs, slice_get, is_some, IsSome}
use Rattle.tdm_problem.specs.declared.wire.Wire.{Wire}
use Rattle.std.specs.Ordering.{nat_cmp}
use Rattle.std.specs.List.Sorted.{IsPermutation, IsSorted, IsStrictlyIncreasing}
use Rattle.std.proofs.lemmas.Bool.{cases_eq, cases_lt, eq-eqb, ne_eqb, false≢true}
use Rattle.std.proofs.lemmas.List.{length-set, get_or_past, get_or_default}
use Rattle.std.proofs.lemmas.List.Elements.{Contains-append_left, Contains-append_right, Contains-push, Contains-push_cases, Contains-get_or}
use Rattle.std.proofs.lemmas.List.Quantifiers.{all_pairs_push}
use Rattle.std.proofs.lemmas.List.Sorted.{Contains-permutation, IsPermutation-sym, IsNonDecreasingBy-from_sort}
use Rattle.std.proofs.lemmas.Map.Keys.{IsDistinct-from_apart, IsDistinct-IsPermutation, IsStrictlyIncreasing-from_distinct}
use Rattle.tdm_problem.specs.Board.{Board, IsWireOf}
use Rattle.tdm_problem.specs.Walk.{Links}
use Rattle.tdm_problem.specs.Distance.{IsHopCount}
use Rattle.shortest_forest.specs.Baseline.{IsParent, IsParentChain, IsOnChain, IsBaseTree}
use Rattle.shortest_forest.specs.Reach.{Reach, HasHops, distance_of, parent_of}
use Rattle.shortest_forest.specs.BreadthFirst.{IsAt}
use Rattle.shortest_forest.specs.Climb.{IsMarked, IsCollected}
use Rattle.shortest_forest.proofs.BreadthFirstLaws.{some_same, not_none}
use Rattle.shortest_forest.proofs.HopLaws.{Links-below, at_hops, hops_unique}
use Rattle.shortest_forest.proofs.BaselineLaws.{contains-head, contains-cons, ends-same, other-end, parent-wire-unique, source-has-no-parent}

-- ---- marks

-- after a mark is set
marked_set : (marks : List Bool) (f g : ℕ) → f < length marks → IsMarked (set marks f true) g
    → (g ≡ f) ⊎ IsMarked marks g
marked_set marks f g below marked = go (cases_eq g f)
  where
    go : (g ≡ f) ⊎ (g ≢ f) → (g ≡ f) ⊎ IsMarked marks g
    go (inl same) = inl same
    go (inr other) = inr (sym (get_or-set_other marks f g true false other) ∙ marked)

marked_here : (marks : List Bool) (f : ℕ) → f < length marks → IsMarked (set marks f true) f
marked_here marks f below = get_or-set_same marks f true false below

marked_kept : (marks : List Bool) (f g : ℕ) → f < length marks → IsMarked marks g
    → IsMarked (set marks f true) g
marked_kept marks f g below marked = go (cases_eq g f)
  where
    go : (g ≡ f) ⊎ (g ≢ f) → IsMarked (set marks f true) g
    go (inl same) = subst (λ (n : ℕ). IsMarked (set marks f true) n) (sym same) (marked_here marks f below)
    go (inr other) = get_or-set_other marks f g true false other ∙ marked

nothing_inside : (x : ℕ) → Contains [] x → ⊥
nothing_inside x there = omega (arith, there.1)

-- ---- parents of a hop forest

module _ (board : Board) (reach : Reach) (hops : HasHops board reach) where
  -- a parent wire that the forest names is one
  pub IsParent-from_reach : (f e : ℕ) → f < board.fpgas → parent_of reach f ≡ Some e
      → (u : ℕ) × IsParent board reach.root f e u
  IsParent-from_reach f e below is =
      let P : Option ℕ → Type 0 = λ x. MatchOption x ((f ≡ reach.root) ⊎ (distance_of reach f ≡ None))
      (λ e. (u : ℕ) × IsParent board reach.root f e u) in
      subst P is (hops.parents f below)

  -- and the forest names each
  reach_from_parent : (f e u : ℕ) → f < board.fpgas → IsParent board reach.root f e u
      → parent_of reach f ≡ Some e
  reach_from_parent f e u below parent = go (parent_of reach f) refl (hops.parents f below)
    where
      go : (x : Option ℕ) → parent_of reach f ≡ x
          → MatchOption x ((f ≡ reach.root) ⊎ (distance_of reach f ≡ None)) (λ e. (u : ℕ)
          × IsParent board reach.root f e u) → parent_of reach f ≡ Some e
      go None is (inl root) =
          absurd (source-has-no-parent board reach.root e u
          (subst (λ (n : ℕ). IsParent board reach.root n e u) root parent))
      go None is (inr none) =
          let at = at_hops board reach.root reach.distances hops.distances f (parent.nearer.0 + 1) below
          parent.nearer.2 in
          not_none (distance_of reach f) (parent.nearer.0 + 1) none at
      go (Some d) is p = is
          ∙ ap (λ (n : ℕ). Some n) (parent-wire-unique board reach.root f d e p.0 u p.1 parent)

  -- the parent of an FPGA has a distance
  parent_at : (f e u : ℕ) → u < board.fpgas → IsParent board reach.root f e u → (d : ℕ)
      × IsAt reach.distances u d
  parent_at f e u below parent = (
    parent.nearer.0,
    at_hops board reach.root reach.distances hops.distances u parent.nearer.0 below
        parent.nearer.1,
  )

-- two FPGAs have different parent wires
parents_differ : (board : Board) (source v w e x y : ℕ) → IsParent board source v e x
    → IsParent board source w e y → v ≡ w
parents_differ board source v w e x y p q = go (ends-same board e v x w y p.links q.links)
  where
    go : ((v ≡ w) × (x ≡ y)) ⊎ ((v ≡ y) × (x ≡ w)) → v ≡ w
    go (inl h) = h.0
    go (inr h) =
        let P : ℕ → Type 0 = λ n. IsHopCount board source n (p.nearer.0 + 1) in
        let Q : ℕ → Type 0 = λ n. IsHopCount board source n p.nearer.0 in
        let up = hops_unique board source y (p.nearer.0 + 1) q.nearer.0 (subst P h.0 p.nearer.2) q.nearer.1 in
        let down = hops_unique board source w p.nearer.0 (q.nearer.0 + 1) (subst Q h.1 p.nearer.1)
        q.nearer.2 in
        absurd (omega (arith, up, down))

-- a chain and one more wire
chain-push : (board : Board) (source v : ℕ) (es : List ℕ) (f e u : ℕ) → IsParentChain board source v es f
    → IsParent board source f e u → IsParentChain board source v (es ++ e ∷ []) u
chain-push board source v [] f e u same parent =
    (u, subst (λ (n : ℕ). IsParent board source n e u) (sym same) parent, refl)
chain-push board source v (d ∷ es) f e u chain parent =
    (chain.0, chain.1, chain-push board source chain.0 es f e u chain.2 parent)

-- one chain after another
chain-append : (board : Board) (source v : ℕ) (es : List ℕ) (f : ℕ) (fs : List ℕ) (u : ℕ)
    → IsParentChain board source v es f → IsParentChain board source f fs u
    → IsParentChain board source v (es ++ fs) u
chain-append board source v [] f fs u same later = subst (λ (n : ℕ). IsParentChain board source n fs u)
    (sym same) later
chain-append board source v (d ∷ es) f fs u chain later =
    (chain.0, chain.1, chain-append board source chain.0 es f fs u chain.2 later)

-- ---- one climb

-- on the way from an FPGA up to FPGA f
pub record IsClimbing (board : Board) (reach : Reach) (from f : ℕ) (before marks : List Bool)
    (wires : List ℕ) : Type 0 where
  pub collected : IsCollected board reach marks wires (λ u. IsMarked marks u ⊎ (u ≡ f))
  pub below : f < board.fpgas
  pub at : (d : ℕ) × IsAt reach.distances f d
  pub path : (es : List ℕ) × IsParentChain board reach.root from es f
  pub start : IsMarked marks from ⊎ (from ≡ f)
  pub kept : (g : ℕ) → IsMarked before g → IsMarked marks g
  pub above : (g : ℕ) → IsMarked marks g → IsMarked before g
      ⊎ ((es : List ℕ) × IsParentChain board reach.root from es g)

-- at the start
pub IsClimbing-start : (board : Board) (reach : Reach) (from d : ℕ) (marks : List Bool) (wires : List ℕ)
    → IsCollected board reach marks wires (IsMarked marks) → from < board.fpgas → IsAt reach.distances from d
    → IsClimbing board reach from from marks marks wires
IsClimbing-start board reach from d marks wires collected below at = record {
  collected = record {
    count = collected.count;
    distinct = collected.distinct;
    inside = collected.inside;
    onward = λ f e u marked parent links. inl (collected.onward f e u marked parent links);
    only = collected.only;
  };
  below = below;
  at = (d, at);
  path = ([], refl);
  start = inr refl;
  kept = λ g marked. marked;
  above = λ g marked. inl marked;
}

module _ (board : Board) (reach : Reach) (from f : ℕ) (before marks : List Bool) (wires : List ℕ)
    (climbing : IsClimbing board reach from f before marks wires) where
  within : f < length marks
  within = omega (arith, climbing.below, climbing.collected.count)

  kept' : (g : ℕ) → IsMarked before g → IsMarked (set marks f true) g
  kept' g marked = marked_kept marks f g within (climbing.kept g marked)

  above' : (g : ℕ) → IsMarked (set marks f true) g → IsMarked before g
      ⊎ ((es : List ℕ) × IsParentChain board reach.root from es g)
  above' g marked = go (marked_set marks f g within marked)
    where
      go : (g ≡ f) ⊎ IsMarked marks g → IsMarked before g
          ⊎ ((es : List ℕ) × IsParentChain board reach.root from es g)
      go (inl same) = inr (
        climbing.path.0,
        subst (λ (n : ℕ). IsParentChain board reach.root from climbing.path.0 n)
            (sym same) climbing.path.1,
      )
      go (inr old) = climbing.above g old

  start' : IsMarked (set marks f true) from
  start' = go climbing.start
    where
      go : IsMarked marks from ⊎ (from ≡ f) → IsMarked (set marks f true) from
      go (inl marked) = marked_kept marks f from within marked
      go (inr same) = subst (λ (n : ℕ). IsMarked (set marks f true) n) (sym same) (marked_here marks f within)

  -- what was reached is marked then
  reached' : (u : ℕ) → IsMarked marks u ⊎ (u ≡ f) → IsMarked (set marks f true) u
  reached' u (inl marked) = marked_kept marks f u within marked
  reached' u (inr same) = subst (λ (n : ℕ). IsMarked (set marks f true) n) (sym same)
      (marked_here marks f within)

  only' : (e : ℕ) → Contains wires e → (g : ℕ) × IsMarked (set marks f true) g × (parent_of reach g ≡ Some e)
  only' e there = let o = climbing.collected.only e there in (o.0, marked_kept marks f o.0 within o.1, o.2)

  -- at the root
  pub IsClimbing-root : parent_of reach f ≡ None
      → IsClimbing board reach from f before (set marks f true) wires
  IsClimbing-root none = record {
    collected = record {
      count = length-set marks f true ∙ climbing.collected.count;
      distinct = climbing.collected.distinct;
      inside = λ g e marked parent. inside' g e parent (marked_set marks f g within marked);
      onward = λ g e u marked parent links. inl
          (reached' u (onward' g e u parent links (marked_set marks f g within marked)));
      only = only';
    };
    below = climbing.below;
    at = climbing.at;
    path = climbing.path;
    start = inl start';
    kept = kept';
    above = above';
  }
    where
      inside' : (g e : ℕ) → parent_of reach g ≡ Some e → (g ≡ f) ⊎ IsMarked marks g → Contains wires e
      inside' g e parent (inl same) =
          not_none (parent_of reach f) e none (subst (λ (n : ℕ). parent_of reach n ≡ Some e) same parent)
      inside' g e parent (inr old) = climbing.collected.inside g e old parent

      onward' : (g e u : ℕ) → parent_of reach g ≡ Some e → Links board e g u → (g ≡ f) ⊎ IsMarked marks g
          → IsMarked marks u ⊎ (u ≡ f)
      onward' g e u parent links (inl same) =
          not_none (parent_of reach f) e none (subst (λ (n : ℕ). parent_of reach n ≡ Some e) same parent)
      onward' g e u parent links (inr old) = climbing.collected.onward g e u old parent links

  -- one wire up
  pub IsClimbing-up : HasHops board reach → (e u : ℕ) → u < board.fpgas → get_or marks f false ≡ false
      → parent_of reach f ≡ Some e → IsParent board reach.root f e u
      → IsClimbing board reach from u before (set marks f true) (wires ++ e ∷ [])
  IsClimbing-up hops e u u_below open' is parent = record {
    collected = record {
      count = length-set marks f true ∙ climbing.collected.count;
      distinct = all_pairs_push (λ x y. x ≢ y) wires e climbing.collected.distinct
          (λ k d below same. new_wire (subst (Contains wires) same (Contains-get_or wires k d below)));
      inside = λ g c marked named. inside' g c named (marked_set marks f g within marked);
      onward = λ g c x marked named links. onward' g c x named links (marked_set marks f g within marked);
      only = λ c there. only'' c (Contains-push_cases wires e c there);
    };
    below = u_below;
    at = parent_at board reach hops f e u u_below parent;
    path = (
      climbing.path.0 ++ e ∷ [],
      chain-push board reach.root from climbing.path.0 f e u climbing.path.1 parent,
    );
    start = inl start';
    kept = kept';
    above = above';
  }
    where
      named_below : (g c : ℕ) → parent_of reach g ≡ Some c → g < board.fpgas
      named_below g c named = go (cases_lt g (length reach.parents))
        where
          go : (g < length reach.parents) ⊎ (length reach.parents ≤ g) → g < board.fpgas
          go (inl small) = omega (arith, hops.count)
          go (inr past) = not_none (parent_of reach g) c (get_or_past reach.parents g None past) named

      new_wire : Contains wires e → ⊥
      new_wire there =
          let o = climbing.collected.only e there in
          let p = IsParent-from_reach board reach hops o.0 e (named_below o.0 e o.2) o.2 in
          let same = parents_differ board reach.root o.0 f e p.0 u p.1 parent in
          false≢true (sym open' ∙ subst (IsMarked marks) same o.1)

      inside' : (g c : ℕ) → parent_of reach g ≡ Some c → (g ≡ f) ⊎ IsMarked marks g
          → Contains (wires ++ e ∷ []) c
      inside' g c named (inl same) =
          let one : e ≡ c = some_same e c (sym is
          ∙ subst (λ (n : ℕ). parent_of reach n ≡ Some c) same named) in
          subst (Contains (wires ++ e ∷ [])) one (Contains-push wires e)
      inside' g c named (inr old) =
          Contains-append_left wires (e ∷ []) c (climbing.collected.inside g c old named)

      onward' : (g c x : ℕ) → parent_of reach g ≡ Some c → Links board c g x → (g ≡ f) ⊎ IsMarked marks g
          → IsMarked (set marks f true) x ⊎ (x ≡ u)
      onward' g c x named links (inl same) =
          let one : c ≡ e = some_same c e (sym (subst (λ (n : ℕ). parent_of reach n ≡ Some c) same named)
          ∙ is) in
          let P : ℕ → Type 0 = λ n. Links board n f x in
          let Q : ℕ → Type 0 = λ n. Links board c n x in
          inr (other-end board e f x u (subst P one (subst Q same links)) parent.links)
      onward' g c x named links (inr old) = inl (reached' x (climbing.collected.onward g c x old named links))

      only'' : (c : ℕ) → Contains wires c ⊎ (e ≡ c) → (g : ℕ) × IsMarked (set marks f true) g
          × (parent_of reach g ≡ Some c)
      only'' c (inl old) = only' c old
      only'' c (inr same) = (f, marked_here marks f within, is ∙ ap (λ (n : ℕ). Some n) same)

  -- at an FPGA with a mark the climb is done
  pub IsCollected-climbed : IsMarked marks f → IsCollected board reach marks wires (IsMarked marks)
  IsCollected-climbed marked = record {
    count = climbing.collected.count;
    distinct = climbing.collected.distinct;
    inside = climbing.collected.inside;
    onward = λ g e u m parent links. go u (climbing.collected.onward g e u m parent links);
    only = climbing.collected.only;
  }
    where
      go : (u : ℕ) → IsMarked marks u ⊎ (u ≡ f) → IsMarked marks u
      go u (inl m) = m
      go u (inr same) = subst (IsMarked marks) (sym same) marked

-- the end of a wire that the code reads is the parent
pub read_other : (board : Board) (e f u r : ℕ) (w : Wire) → Links board e f u
    → slice_get board.wires e ≡ Some w → IsWireOf board.fpgas w → (w.a ≡ f → r ≡ w.b) → (w.a ≢ f → r ≡ w.a)
    → (r ≡ u) × (r < board.fpgas)
read_other board e f u r w links is joins first second = go (cases_eq w.a f) links.ends
  where
    wire_same : (v : Wire) → Some v ≡ Some w → v ≡ w
    wire_same v q = cc

    same : links.wire ≡ w
    same = wire_same links.wire (sym links.is ∙ is)

    same_a : links.wire.a ≡ w.a
    same_a = ap (λ (v : Wire). v.a) same

    same_b : links.wire.b ≡ w.b
    same_b = ap (λ (v : Wire). v.b) same

    go : (w.a ≡ f) ⊎ (w.a ≢ f) → ((links.wire.a ≡ f) × (links.wire.b ≡ u))
        ⊎ ((links.wire.a ≡ u) × (links.wire.b ≡ f)) → (r ≡ u) × (r < board.fpgas)
    go (inl at_a) (inl ends) = (
      omega (arith, first at_a, same_b, ends.1),
      omega (arith, first at_a, joins.b_there),
    )
    go (inl at_a) (inr ends) = (
      omega (arith, first at_a, same_a, same_b, ends.0, ends.1),
      omega (arith, first at_a, joins.b_there),
    )
    go (inr not_a) (inl ends) = absurd (not_a (sym same_a ∙ ends.0))
    go (inr not_a) (inr ends) = (
      omega (arith, second not_a, same_a, ends.0),
      omega (arith, second not_a, joins.a_there),
    )

some_from : (x : Option ℕ) → is_some x ≡ true → (d : ℕ) × (x ≡ Some d)
some_from None is = absurd (false≢true is)
some_from (Some d) is = (d, refl)

pub distance_from : (reach : Reach) (f : ℕ) → IsSome (distance_of reach f)
    → (d : ℕ) × IsAt reach.distances f d
distance_from reach f is = some_from (distance_of reach f) is

-- ---- all climbs

-- every terminal is marked, and what is marked is on the chain of a terminal
pub record IsGathered (board : Board) (reach : Reach) (terminals : List ℕ) (n : ℕ) (marks : List Bool)
    (wires : List ℕ) : Type 0 where
  pub collected : IsCollected board reach marks wires (IsMarked marks)
  pub done : (k : ℕ) → k < n → IsMarked marks (slice_index terminals k)
  pub at : (k : ℕ) → k < n → (d : ℕ) × IsAt reach.distances (slice_index terminals k) d
  pub above : (g : ℕ) → IsMarked marks g → (t : ℕ) × Contains terminals t
      × ((es : List ℕ) × IsParentChain board reach.root t es g)

pub IsGathered-more : (board : Board) (reach : Reach) (terminals : List ℕ) (n d : ℕ)
    (marks marks' : List Bool) (wires wires' : List ℕ) → IsGathered board reach terminals n marks wires
    → n < length terminals → IsAt reach.distances (slice_index terminals n) d
    → IsCollected board reach marks' wires' (IsMarked marks') → IsMarked marks' (slice_index terminals n)
    → ((g : ℕ) → IsMarked marks g → IsMarked marks' g)
    → ((g : ℕ) → IsMarked marks' g → IsMarked marks g
    ⊎ ((es : List ℕ) × IsParentChain board reach.root (slice_index terminals n) es g))
    → IsGathered board reach terminals (n + 1) marks' wires'
IsGathered-more board reach terminals n d marks marks' wires wires' gathered below at_n collected marked kept
    above = record {
      collected = collected;
      done = λ k k_below. done' k k_below (cases_lt k n);
      at = λ k k_below. at' k k_below (cases_lt k n);
      above = λ g m. above' g (above g m);
    }
  where
    done' : (k : ℕ) → k < n + 1 → (k < n) ⊎ (n ≤ k) → IsMarked marks' (slice_index terminals k)
    done' k k_below (inl before) = kept (slice_index terminals k) (gathered.done k before)
    done' k k_below (inr not_before) =
        let last : n ≡ k = omega arith in
        subst (λ (v : ℕ). IsMarked marks' (slice_index terminals v)) last marked

    at' : (k : ℕ) → k < n + 1 → (k < n) ⊎ (n ≤ k) → (d : ℕ) × IsAt reach.distances (slice_index terminals k) d
    at' k k_below (inl before) = gathered.at k before
    at' k k_below (inr not_before) =
        let last : n ≡ k = omega arith in
        (d, subst (λ (v : ℕ). IsAt reach.distances (slice_index terminals v) d) last at_n)

    above' : (g : ℕ) → IsMarked marks g
        ⊎ ((es : List ℕ) × IsParentChain board reach.root (slice_index terminals n) es g)
        → (t : ℕ) × Contains terminals t × ((es : List ℕ) × IsParentChain board reach.root t es g)
    above' g (inl old) = gathered.above g old
    above' g (inr chain) = (slice_index terminals n, Contains-get_or terminals n 0 below, chain)

-- ---- the baseline tree

flips : (x y : ℕ) → eqb x y ≡ eqb y x
flips x y = go (cases_eq x y)
  where
    go : (x ≡ y) ⊎ (x ≢ y) → eqb x y ≡ eqb y x
    go (inl same) = eq-eqb x y same ∙ sym (eq-eqb y x (sym same))
    go (inr other) = ne_eqb x y other ∙ sym (ne_eqb y x (λ q. other (sym q)))

-- distinct wires rise after a sort
pub sorted_rising : (wires sorted : List ℕ) → AllPairs (λ d e. d ≢ e) wires → IsPermutation wires sorted
    → IsSorted nat_cmp sorted → IsStrictlyIncreasing sorted
sorted_rising wires sorted distinct moved in_order =
    IsStrictlyIncreasing-from_distinct sorted (IsNonDecreasingBy-from_sort (λ x. x) sorted in_order)
    (IsDistinct-IsPermutation eqb flips wires sorted moved
    (IsDistinct-from_apart eqb wires (λ i j d before below. ne_eqb (get_or wires i d)
    (get_or wires j d) (distinct i j d before below))))

module _ (board : Board) (reach : Reach) (hops : HasHops board reach)
    (there : All (IsWireOf board.fpgas) board.wires) (terminals : List ℕ) (marks : List Bool) (wires : List ℕ)
    (gathered : IsGathered board reach terminals (length terminals) marks wires) where
  -- each terminal has a distance
  pub at_terminal : (t : ℕ) → Contains terminals t → (d : ℕ) × IsAt reach.distances t d
  at_terminal t (k, below, is) =
      let a = gathered.at k below in
      let same : slice_index terminals k ≡ t = get_or_default terminals k 0 t below ∙ is in
      (a.0, subst (λ (n : ℕ). IsAt reach.distances n a.0) same a.1)

  marked_terminal : (t : ℕ) → Contains terminals t → IsMarked marks t
  marked_terminal t (k, below, is) =
      let same : slice_index terminals k ≡ t = get_or_default terminals k 0 t below ∙ is in
      subst (IsMarked marks) same (gathered.done k below)

  marked_below : (f : ℕ) → IsMarked marks f → f < board.fpgas
  marked_below f marked = go (cases_lt f (length marks))
    where
      go : (f < length marks) ⊎ (length marks ≤ f) → f < board.fpgas
      go (inl below) = omega (arith, gathered.collected.count)
      go (inr past) = absurd (false≢true (sym (get_or_past marks f false past) ∙ marked))

  -- the wires of the chain of a marked FPGA are collected
  chain_inside : (es : List ℕ) (f : ℕ) → IsMarked marks f → IsParentChain board reach.root f es reach.root
      → (e : ℕ) → Contains es e → Contains wires e
  chain_inside [] f marked chain e inside = absurd (nothing_inside e inside)
  chain_inside (c ∷ es) f marked chain e inside = go (contains-cons c e es inside) (chain_inside es chain.0)
    where
      named : parent_of reach f ≡ Some c
      named = reach_from_parent board reach hops f c chain.0 (marked_below f marked) chain.1

      go : (c ≡ e) ⊎ Contains es e
          → (IsMarked marks chain.0 → IsParentChain board reach.root chain.0 es reach.root → (e : ℕ)
          → Contains es e → Contains wires e) → Contains wires e
      go (inl same) later = subst (Contains wires) same (gathered.collected.inside f c marked named)
      go (inr rest) later = later (gathered.collected.onward f c chain.0 marked named chain.1.links) chain.2 e
          rest

  -- a collected wire is on the chain of a terminal
  wire_on_chain : (e : ℕ) → Contains wires e → IsOnChain board reach.root terminals e
  wire_on_chain e inside =
      let o = gathered.collected.only e inside in
      let p = IsParent-from_reach board reach hops o.0 e (marked_below o.0 o.1) o.2 in
      let a = gathered.above o.0 o.1 in
      let at_u = parent_at board reach hops o.0 e p.0 (Links-below board there e o.0 p.0 p.1.links) p.1 in
      let rest = hops.chains p.0 at_u.0 at_u.1 in
      let whole = chain-append board reach.root a.0 a.2.0 o.0 (e ∷ rest.0) reach.root a.2.1 (
        p.0,
        p.1,
        rest.1,
      ) in (
        a.0,
        a.1,
        (
          a.2.0 ++ e ∷ rest.0,
          whole,
          Contains-append_right a.2.0 (e ∷ rest.0) e (contains-head e rest.0),
        ),
      )

  pub IsBaseTree-gathered : (sorted : List ℕ) → IsPermutation wires sorted → IsSorted nat_cmp sorted
      → IsBaseTree board reach.root terminals sorted
  IsBaseTree-gathered sorted moved in_order = record {
    rising = sorted_rising wires sorted gathered.collected.distinct moved in_order;
    reached = λ t inside. (let a = at_terminal t inside in let c = hops.chains t a.0 a.1 in (c.0, c.1));
    exact = λ e. (
      (λ inside. wire_on_chain e (Contains-permutation sorted wires e (IsPermutation-sym wires sorted moved)
          inside)),
      (λ on. Contains-permutation wires sorted e moved
          (chain_inside on.2.0 on.0 (marked_terminal on.0 on.1) on.2.1 e on.2.2)),
    );
  }
