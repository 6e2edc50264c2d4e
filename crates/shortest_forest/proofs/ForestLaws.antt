-- A search without goals and bounds settles all FPGAs that walks lead to, and its labels are the least
-- lengths.
use Rattle.std.proofs.Common.{◌≡◌, ◌≢◌, ℕ, ◌+◌, ◌-◌, ◌*◌, ◌^◌, ◌<◌, ◌≤◌, ◌⊎◌, Bool, true, false, List, [], ◌∷◌, Option, Some, None, length, get_or, set, refl, sym, ap, ◌∙◌, subst, inl, inr, arith, get_or-set_same, get_or-set_other}
use Rattle.std.specs.Prelude.{IfSome, IfNone, MatchOption, ◌↔◌, replicate, reverse}
use Rattle.std.proofs.lemmas.Bool.{cases_eq, cases_lt}
use Rattle.std.proofs.lemmas.List.{get_or_past, length-replicate, get_or-replicate}
use Rattle.std.proofs.lemmas.List.Sums.{sum_by-cons}
use Rattle.tdm_problem.specs.Board.{Board}
use Rattle.tdm_problem.specs.Walk.{Links, IsWalk, AnyWire}
use Rattle.tdm_problem.specs.Distance.{length_of, IsDistance}
use Rattle.tdm_problem.proofs.Walks.{Links-sym, AnyWire-from_links, IsWalk-reverse}
use Rattle.board_graph.specs.Graph.{Graph, board_of}
use Rattle.shortest_forest.specs.declared.label.Label.{Label}
use Rattle.shortest_forest.specs.Arcs.{both_ways, IsGoal}
use Rattle.shortest_forest.specs.Labels.{Labels, label_at, distance_in, wire_in, HasLabel, IsAtLabel, IsSource, IsWaiting, IsNoShorter, IsWayBack, IsWaitingOrSettled, IsUnderWay, IsNearest, AreFar}
use Rattle.shortest_forest.specs.Settled.{IsAllSettled}
use Rattle.shortest_forest.specs.Reach.{Reach, distance_of, parent_of, HasNoWalk}
use Rattle.shortest_forest.specs.LeastForest.{LeadsNearerBy, IsWayUp, HasLeast, IsLeastForest}
use Rattle.shortest_forest.proofs.SameBoard.{Links-same, IsWalk-same}
use Rattle.shortest_forest.proofs.BreadthFirstLaws.{some_same}
use Rattle.shortest_forest.proofs.UnderWay.{distance_unique, wire_unique, not_source, unlabelled, begun_unlabelled}
use Rattle.shortest_forest.proofs.WayLaws.{length-reversed, way_back-source, way_back-short, way_back-walk}

-- ---- without goals

no_goal_there : (n g : ℕ) → IsGoal (replicate n false) g → ⊥
no_goal_there n g goal = go (cases_lt g n)
  where
    go : (g < n) ⊎ (n ≤ g) → ⊥
    go (inl below) = let both : true ≡ false = sym goal ∙ get_or-replicate n g false false below in
        absurd (cc both)
    go (inr past) =
        let both : true ≡ false = sym goal
        ∙ get_or_past (replicate n false) g false (omega (arith, past, length-replicate n false)) in
        absurd (cc both)

-- where there is no goal, none is found
pub far_without_goals : (board : Board) (arcs : ℕ → ℕ → ℕ → ℕ) (bound : ℕ → ℕ) (cap n : ℕ) (s : Labels)
    → s.goals ≡ replicate n false → (found : Option ℕ) → IfSome found (IsNearest board arcs bound cap s)
    → IfNone found (AreFar board arcs bound cap s) → AreFar board arcs bound cap s
far_without_goals board arcs bound cap n s none None some far = far
far_without_goals board arcs bound cap n s none (Some g) some far =
    absurd (no_goal_there n g (subst (λ (gs : List Bool). IsGoal gs g) none some.marked))

module _ (graph : Graph) (l : ℕ → ℕ) (cap : ℕ) (s : Labels)
    (search : IsUnderWay (board_of graph) (both_ways l) (λ _. 0) cap s) (far : (f d : ℕ) → IsWaiting s f d
    → cap ≤ d) (great : cap ≡ 2 ^ 64 - 2 ^ 51) (few : graph.fpgas ≤ 4096) (limit : (e : ℕ)
    → e < length graph.wires → l e ≤ 2 ^ 51) where
  short : (e f u : ℕ) → Links (board_of graph) e f u → l e ≤ 2 ^ 51
  short e f u links = limit e (AnyWire-from_links (board_of graph) e f u links)

  -- a label is no longer than so many of the longest wires
  label_small : (f : ℕ) (es : List ℕ) (source : ℕ) → IsWayBack (board_of graph) s f es source
      → length es < 4096 → (d : ℕ) → IsAtLabel s f d → d ≤ length es * 2 ^ 51
  label_small f [] source back few_wires d at = omega (arith, distance_unique s f 0 d (None, back.1) at)
  label_small f (e ∷ es) source back few_wires d at =
      let near = search.labelled.shorter f back.0 e back.2.0 back.1 back.2.1 in
      let before : near.0 ≤ length es * 2 ^ 51 =
      label_small back.2.0 es source back.2.2 (omega (arith, few_wires)) near.0 near.1 in
      go near.0 near.1 before (search.settled back.2.0 near.0 near.1)
    where
      on : (near : ℕ) → near ≤ length es * 2 ^ 51 → IsNoShorter s (λ _. 0) cap f (near + l e)
          → d ≤ length (e ∷ es) * 2 ^ 51
      on near before (inl nearer) =
          omega (
            arith,
            before,
            nearer.2,
            distance_unique s f nearer.0 d nearer.1 at,
            short e f back.2.0 back.2.1,
          )
      on near before (inr none) =
          absurd (omega (arith, before, none, great, few_wires, short e f back.2.0 back.2.1))

      go : (near : ℕ) → IsAtLabel s back.2.0 near → near ≤ length es * 2 ^ 51
          → IsWaitingOrSettled (board_of graph) (both_ways l) (λ _. 0) cap s back.2.0 near
          → d ≤ length (e ∷ es) * 2 ^ 51
      go near at' before (inl waits) =
          absurd (omega (arith, before, far back.2.0 waits.0 waits.1, waits.2, great, few_wires))
      go near at' before (inr (inl needless)) = absurd (omega (arith, before, needless, great, few_wires))
      go near at' before (inr (inr settled)) =
          on near before (settled.1 e f (Links-sym (board_of graph) e f back.2.0 back.2.1))

  settled_onward : (f d e v : ℕ) → IsAtLabel s f d → Links (board_of graph) e f v → (near : ℕ)
      × IsAtLabel s v near × (near ≤ d + l e)
  settled_onward f d e v at links = go (search.settled f d at)
    where
      small : d ≤ 4095 * 2 ^ 51
      small =
          let back = search.labelled.back f d at in
          let wires = way_back-short (board_of graph) s f back.0 back.1.0 back.1.1 in
          omega (
            arith,
            label_small f back.0 back.1.0 back.1.1 (omega (
              arith,
              wires,
              search.labelled.count,
              few,
            )) d at,
            wires,
            search.labelled.count,
            few,
          )

      on : IsNoShorter s (λ _. 0) cap v (d + l e) → (near : ℕ) × IsAtLabel s v near × (near ≤ d + l e)
      on (inl near) = near
      on (inr none) = absurd (omega (arith, none, small, great, short e f v links))

      go : IsWaitingOrSettled (board_of graph) (both_ways l) (λ _. 0) cap s f d → (near : ℕ)
          × IsAtLabel s v near × (near ≤ d + l e)
      go (inl waits) = absurd (omega (arith, far f waits.0 waits.1, waits.2, small, great))
      go (inr (inl needless)) = absurd (omega (arith, needless, small, great))
      go (inr (inr settled)) = on (settled.1 e v links)

-- one source is added to a search that has just begun
pub one_source : (n root : ℕ) (none one : Labels) → none.labels ≡ replicate n None
    → one.labels ≡ set none.labels root (Some (record { distance = 0; wire = None })) → root < n
    → IsSource one root × ((f : ℕ) → IsSource one f → f ≡ root)
one_source n root none one empty added below = (there, λ f is. only f is (cases_eq f root))
  where
    there : IsSource one root
    there =
        ap (λ xs. get_or xs root None) added
        ∙ get_or-set_same none.labels root (Some (record { distance = 0; wire = None })) None
        (omega (arith, below, ap length empty, length-replicate n (let x : Option Label = None in x)))

    only : (f : ℕ) → IsSource one f → (f ≡ root) ⊎ (f ≢ root) → f ≡ root
    only f is (inl same) = same
    only f is (inr other) =
        let before : label_at one f ≡ label_at none f = ap (λ xs. get_or xs f None) added
        ∙ get_or-set_other none.labels root f (Some (record { distance = 0; wire = None })) None other in
        unlabelled one f 0 (before ∙ begun_unlabelled none n empty f) (None, is)

pub all_settled : (graph : Graph) (l : ℕ → ℕ) (cap : ℕ) (s : Labels)
    → IsUnderWay (board_of graph) (both_ways l) (λ _. 0) cap s → ((f d : ℕ) → IsWaiting s f d → cap ≤ d)
    → cap ≡ 2 ^ 64 - 2 ^ 51 → graph.fpgas ≤ 4096 → ((e : ℕ) → e < length graph.wires → l e ≤ 2 ^ 51)
    → (root : ℕ) (one : Labels) → IsSource one root × ((f : ℕ) → IsSource one f → f ≡ root)
    → ((f : ℕ) → IsSource s f ↔ IsSource one f) → IsAllSettled (board_of graph) l root s
all_settled graph l cap s search far great few limit root one source same = record {
  labelled = search.labelled;
  root_source = (same root).1 source.0;
  only_source = λ f is. source.1 f ((same f).0 is);
  onward = λ f d e v at links. settled_onward graph l cap s search far great few limit f d e v at links;
}

-- ---- what the labels say

module _ (board : Board) (l : ℕ → ℕ) (root : ℕ) (s : Labels) (all : IsAllSettled board l root s) where
  -- a walk leads to labels that are no longer
  walk_label : (x dx : ℕ) (es : List ℕ) (f : ℕ) → IsAtLabel s x dx → IsWalk board (AnyWire board) x es f
      → (d : ℕ) × IsAtLabel s f d × (d ≤ dx + length_of l es)
  walk_label x dx [] f at walk = (dx, subst (λ (n : ℕ). IsAtLabel s n dx) walk at, omega arith)
  walk_label x dx (e ∷ es) f at walk =
      let near = all.onward x dx e walk.1.0 at walk.1.1 in
      let later = walk_label walk.1.0 near.0 es f near.1 walk.1.2 in
      (later.0, later.1, omega (arith, later.2, near.2, sum_by-cons l e es))

  root_label : IsAtLabel s root 0
  root_label = (None, all.root_source)

  label_is_distance : (f d : ℕ) → IsAtLabel s f d → IsDistance board l root f d
  label_is_distance f d at =
      let back = all.labelled.back f d at in
      let walk = way_back-walk board l s all.labelled f d back.0 back.1.0 at back.1.1 in
      let source : back.1.0 ≡ root =
      all.only_source back.1.0 (way_back-source board s f back.0 back.1.0 back.1.1) in
      let forth : IsWalk board (AnyWire board) root (reverse back.0) f =
      IsWalk-reverse board (AnyWire board) f back.0 root
      (subst (λ (n : ℕ). IsWalk board (AnyWire board) f back.0 n) source walk.0) in
      let no_longer = at_least f d at (reverse back.0) forth in
      record {
        walk = (reverse back.0, forth, omega (arith, length-reversed l back.0, walk.1, no_longer));
        least = λ es forth'. at_least f d at es forth';
      }
    where
      at_least : (f d : ℕ) → IsAtLabel s f d → (es : List ℕ) → IsWalk board (AnyWire board) root es f
          → d ≤ length_of l es
      at_least f d at es walk =
          let near = walk_label root 0 es f root_label walk in
          omega (arith, near.2, distance_unique s f near.0 d near.1 at)

  no_label_no_walk : (f : ℕ) → label_at s f ≡ None → HasNoWalk board root f
  no_label_no_walk f none es walk =
      let near = walk_label root 0 es f root_label walk in unlabelled s f near.0 none near.1

  -- the distance of an FPGA is its least length from the root, and where it has none no walk leads there
  pub distances_exact : (f : ℕ) → MatchOption (distance_in (label_at s f)) (HasNoWalk board root f)
      (IsDistance board l root f)
  distances_exact f = go (label_at s f) refl
    where
      go : (x : Option Label) → label_at s f ≡ x
          → MatchOption (distance_in x) (HasNoWalk board root f) (IsDistance board l root f)
      go None is = no_label_no_walk f is
      go (Some x) is = label_is_distance f x.distance (x.wire, is)

  module _ (reach : Reach) (is_root : reach.root ≡ root) (n : ℕ) (fpgas : n ≡ board.fpgas) (inside : root
      < board.fpgas) (far_ends : (e f u : ℕ) → Links board e f u
      → u < board.fpgas) (count : length reach.distances ≡ n) (distances : (f : ℕ) → f < n
      → distance_of reach f ≡ distance_in (label_at s f)) (wire_count : length reach.parents ≡ n)
      (wires : (f : ℕ) → f < n → parent_of reach f ≡ wire_in (label_at s f)) where
    distances' : (f : ℕ) → f < board.fpgas → MatchOption (distance_of reach f) (HasNoWalk board reach.root f)
        (IsDistance board l reach.root f)
    distances' f below =
        let P : Option ℕ → Type 0 = λ x. MatchOption x (HasNoWalk board root f) (IsDistance board l root f) in
        let Q : ℕ → Type 0 = λ n. MatchOption (distance_of reach f) (HasNoWalk board n f)
        (IsDistance board l n f) in
        subst Q (sym is_root) (subst P (sym (distances f (omega (arith, below, fpgas)))) (distances_exact f))

    at_distance : (f d : ℕ) → f < board.fpgas → IsAtLabel s f d → distance_of reach f ≡ Some d
    at_distance f d below at = distances f (omega (arith, below, fpgas)) ∙ ap distance_in at.1

    leads : (f d e u : ℕ) → f < board.fpgas → HasLabel s f d (Some e) → Links board e f u
        → LeadsNearerBy board l reach f e
    leads f d e u below at links =
        let near = all.labelled.shorter f d e u at links in
        let back = all.onward u near.0 e f near.1 (Links-sym board e f u links) in
        let equal : near.0 + l e ≡ d =
        omega (arith, near.2, back.2, distance_unique s f back.0 d back.1 (Some e, at)) in (
          u,
          links,
          (
            near.0,
            at_distance u near.0 (far_ends e f u links) near.1,
            at_distance f d below (Some e, at) ∙ ap (λ (m : ℕ). Some m) (sym equal),
          ),
        )

    parents' : (f : ℕ) → f < board.fpgas → MatchOption (parent_of reach f) ((f ≡ reach.root)
        ⊎ (distance_of reach f ≡ None)) (λ e. (f ≢ reach.root) × LeadsNearerBy board l reach f e)
    parents' f below =
        let P : Option ℕ → Type 0 = λ x. MatchOption x ((f ≡ reach.root) ⊎ (distance_of reach f ≡ None))
        (λ e. (f ≢ reach.root) × LeadsNearerBy board l reach f e) in
        subst P (sym (wires f (omega (arith, below, fpgas)))) (go (label_at s f) refl)
      where
        some : (d : ℕ) (w : Option ℕ) → HasLabel s f d w
            → MatchOption w ((f ≡ reach.root) ⊎ (distance_of reach f ≡ None)) (λ e. (f ≢ reach.root)
            × LeadsNearerBy board l reach f e)
        some d None at =
            let zero' : d ≡ 0 = all.labelled.sources f d at in
            inl (all.only_source f (subst (λ (n : ℕ). HasLabel s f n None) zero' at) ∙ sym is_root)
        some d (Some e) at = (
          λ same. not_source s root 0 d e all.root_source (subst (λ (n : ℕ). HasLabel s n d (Some e)) (same
              ∙ is_root) at),
          on (all.labelled.back f d (Some e, at)),
        )
          where
            on : (es : List ℕ) × ((source : ℕ) × IsWayBack board s f es source)
                → LeadsNearerBy board l reach f e
            on ([], rest) = not_source s f 0 d e rest.1.1 at
            on (g ∷ es, rest) =
                let back = rest.1 in
                let same : g ≡ e = some_same g e (wire_unique s f back.0 d (Some g) (Some e) back.1 at) in
                leads f d e back.2.0 below at (subst (λ (n : ℕ). Links board n f back.2.0) same back.2.1)

        go : (x : Option Label) → label_at s f ≡ x
            → MatchOption (wire_in x) ((f ≡ reach.root) ⊎ (distance_of reach f ≡ None)) (λ e. (f ≢ reach.root)
            × LeadsNearerBy board l reach f e)
        go None is = inr (distances f (omega (arith, below, fpgas)) ∙ ap distance_in is)
        go (Some x) is = some x.distance x.wire is

    way_up : (f : ℕ) (es : List ℕ) (source : ℕ) → f < board.fpgas → IsWayBack board s f es source
        → IsWayUp board reach f es
    way_up f [] source below back = all.only_source f back.1 ∙ sym is_root
    way_up f (e ∷ es) source below back = (
      wires f (omega (arith, below, fpgas)) ∙ ap wire_in back.1,
      (back.2.0, back.2.1, way_up back.2.0 es source (far_ends e f back.2.0 back.2.1) back.2.2),
    )

    distance_below : (f d : ℕ) → distance_of reach f ≡ Some d → f < board.fpgas
    distance_below f d is = go (cases_lt f (length reach.distances))
      where
        go : (f < length reach.distances) ⊎ (length reach.distances ≤ f) → f < board.fpgas
        go (inl below) = omega (arith, below, count, fpgas)
        go (inr past) =
            let both : None ≡ Some d = sym (get_or_past reach.distances f None past) ∙ is in absurd (cc both)

    ways' : (f d : ℕ) → distance_of reach f ≡ Some d → (es : List ℕ) × IsWayUp board reach f es
        × (length es < board.fpgas)
    ways' f d is = go (label_at s f) refl
      where
        below : f < board.fpgas
        below = distance_below f d is

        go : (x : Option Label) → label_at s f ≡ x → (es : List ℕ) × IsWayUp board reach f es
            × (length es < board.fpgas)
        go None none =
            let both : None ≡ Some d = sym (distances f (omega (arith, below, fpgas)) ∙ ap distance_in none)
            ∙ is in absurd (cc both)
        go (Some x) some =
            let back = all.labelled.back f x.distance (x.wire, some) in (
              back.0,
              way_up f back.0 back.1.0 below back.1.1,
              omega (arith, way_back-short board s f back.0 back.1.0 back.1.1, all.labelled.count),
            )

    pub HasLeast-made : HasLeast board l reach
    HasLeast-made = record {
      root = omega (arith, inside, is_root);
      distance_count = count ∙ fpgas;
      distances = distances';
      parent_count = wire_count ∙ fpgas;
      parents = parents';
      ways = ways';
    }

-- ---- on each board with the wires of a graph

IsDistance-same : (b c : Board) → b.wires ≡ c.wires → (l : ℕ → ℕ) (x y d : ℕ) → IsDistance b l x y d
    → IsDistance c l x y d
IsDistance-same b c same l x y d h = record {
  walk = (h.walk.0, IsWalk-same b c same x h.walk.0 y h.walk.1, h.walk.2);
  least = λ es walk. h.least es (IsWalk-same c b (sym same) x es y walk);
}

pub HasLeast-same : (b c : Board) → b.wires ≡ c.wires → b.fpgas ≡ c.fpgas → (l : ℕ → ℕ) (reach : Reach)
    → HasLeast b l reach → HasLeast c l reach
HasLeast-same b c wires fpgas l reach h = record {
  root = omega (arith, h.root, fpgas);
  distance_count = h.distance_count ∙ fpgas;
  distances = λ f below. distances' f (distance_of reach f) (h.distances f (omega (arith, below, fpgas)));
  parent_count = h.parent_count ∙ fpgas;
  parents = λ f below. parents' f (parent_of reach f) (h.parents f (omega (arith, below, fpgas)));
  ways = λ f d is. (let way = h.ways f d is in (way.0, way_up' f way.0 way.1, omega (arith, way.2, fpgas)));
}
  where
    distances' : (f : ℕ) (x : Option ℕ)
        → MatchOption x (HasNoWalk b reach.root f) (IsDistance b l reach.root f)
        → MatchOption x (HasNoWalk c reach.root f) (IsDistance c l reach.root f)
    distances' f None none = λ es walk. none es (IsWalk-same c b (sym wires) reach.root es f walk)
    distances' f (Some d) at = IsDistance-same b c wires l reach.root f d at

    parents' : (f : ℕ) (x : Option ℕ) → MatchOption x ((f ≡ reach.root) ⊎ (distance_of reach f ≡ None))
        (λ e. (f ≢ reach.root) × LeadsNearerBy b l reach f e)
        → MatchOption x ((f ≡ reach.root) ⊎ (distance_of reach f ≡ None)) (λ e. (f ≢ reach.root)
        × LeadsNearerBy c l reach f e)
    parents' f None none = none
    parents' f (Some e) at = (at.0, (at.1.0, Links-same b c wires e f at.1.0 at.1.1, at.1.2))

    way_up' : (f : ℕ) (es : List ℕ) → IsWayUp b reach f es → IsWayUp c reach f es
    way_up' f [] way = way
    way_up' f (e ∷ es) way =
        (way.0, (way.1.0, Links-same b c wires e f way.1.0 way.1.1, way_up' way.1.0 es way.1.2))

pub IsLeastForest-made : (graph : Graph) (l : ℕ → ℕ) (reach : Reach) → HasLeast (board_of graph) l reach
    → IsLeastForest graph l reach
IsLeastForest-made graph l reach h = record {
  on_board = λ board same. HasLeast-same (board_of graph) board (ap (λ (g : Graph). g.wires) same)
      (ap (λ (g : Graph). g.fpgas) same) l reach h;
}
