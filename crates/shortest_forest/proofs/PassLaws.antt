-- What one look at the neighbours of an FPGA finds.
use Rattle.std.proofs.Common.{◌≡◌, ℕ, ◌+◌, ◌<◌, ◌≤◌, ◌⊎◌, List, Option, Some, None, length, get_or, slice_index, refl, sym, ap, ◌∙◌, subst, inl, inr, arith}
use Rattle.std.proofs.lemmas.Bool.{cases_lt}
use Rattle.std.proofs.lemmas.List.{get_or_default, get_or_read}
use Rattle.std.specs.Prelude.{unwrap_or}
use Rattle.tdm_problem.specs.Board.{Board}
use Rattle.tdm_problem.specs.Walk.{Links}
use Rattle.board_graph.specs.declared.neighbour.Neighbour.{Neighbour}
use Rattle.board_graph.specs.Graph.{Graph, IsGraph, board_of}
use Rattle.board_graph.specs.Neighbours.{neighbours_of}
use Rattle.shortest_forest.specs.BreadthFirst.{IsAt, IsPassed, IsSearch, IsReached, LeadsNearer, IsFirstNearer}
use Rattle.shortest_forest.proofs.NeighbourLaws.{Links-from_neighbour, neighbour-from_links, neighbours-rise}
use Rattle.shortest_forest.proofs.HopLaws.{Links-below}
use Rattle.shortest_forest.proofs.BreadthFirstLaws.{some_same, at_unique, at_below, IsStepDone, step_done, IsSearch-next}

-- a neighbour is an FPGA of the graph
pub neighbour-below : (graph : Graph) → IsGraph graph → (f k : ℕ) (z : Neighbour)
    → k < length (neighbours_of graph f) → (get_or (neighbours_of graph f) k z).fpga < graph.fpgas
neighbour-below graph is_graph f k z below =
    Links-below (board_of graph) is_graph.wires _ f _ (Links-from_neighbour graph f k z below)

-- none of the first n neighbours is one hop nearer than a distance
abbrev pub NoneNearer : Graph → List (Option ℕ) → ℕ → ℕ → ℕ → Type 0
NoneNearer graph distances f distance n = (k d : ℕ) (z : Neighbour) → k < n
    → IsAt distances (get_or (neighbours_of graph f) k z).fpga d → d + 1 ≡ distance → ⊥

-- where a wire leads nearer, its neighbour is one hop nearer
nearer_place : (graph : Graph) (distances : List (Option ℕ)) (f distance e d : ℕ) → IsAt distances f distance
    → LeadsNearer (board_of graph) distances f e d → (k : ℕ) × (k < length (neighbours_of graph f))
    × ((z : Neighbour) → (get_or (neighbours_of graph f) k z).wire ≡ e)
    × ((z : Neighbour) → IsAt distances (get_or (neighbours_of graph f) k z).fpga d) × (d + 1 ≡ distance)
nearer_place graph distances f distance e d here near =
    let p = neighbour-from_links graph f e near.0 near.1 in (
      p.0,
      p.1,
      (λ z. ap (λ (n : Neighbour). n.wire) (p.2 z)),
      (λ z. ap (λ (n : Neighbour). get_or distances n.fpga None) (p.2 z) ∙ near.2),
      some_same (d + 1) distance (sym near.3 ∙ here),
    )

-- where no neighbour is one hop nearer, no wire leads nearer
pub none_nearer : (graph : Graph) (distances : List (Option ℕ)) (f distance : ℕ) → IsAt distances f distance
    → NoneNearer graph distances f distance (length (neighbours_of graph f)) → (e d : ℕ)
    → LeadsNearer (board_of graph) distances f e d → ⊥
none_nearer graph distances f distance here none e d near =
    let p = nearer_place graph distances f distance e d here near in
    let z : Neighbour = record { wire = 0; fpga = 0 } in
    none p.0 d z p.1 (p.3 z) p.4

-- the first neighbour that is one hop nearer is over the first wire
pub first_nearer : (graph : Graph) (distances : List (Option ℕ)) (f distance k d : ℕ) (z : Neighbour)
    → IsAt distances f distance → NoneNearer graph distances f distance k → k < length (neighbours_of graph f)
    → IsAt distances (get_or (neighbours_of graph f) k z).fpga d → d + 1 ≡ distance
    → IsFirstNearer (board_of graph) distances f (get_or (neighbours_of graph f) k z).wire
first_nearer graph distances f distance k d z here none below at one = record {
  nearer = (
    d,
    (
      (get_or (neighbours_of graph f) k z).fpga,
      Links-from_neighbour graph f k z below,
      at,
      here ∙ ap (λ (n : ℕ). Some n) (sym one),
    ),
  );
  least = λ e far near. later e far (nearer_place graph distances f distance e far here near);
}
  where
    later : (e : ℕ) (far : ℕ) → (k : ℕ) × (k < length (neighbours_of graph f))
        × ((z : Neighbour) → (get_or (neighbours_of graph f) k z).wire ≡ e)
        × ((z : Neighbour) → IsAt distances (get_or (neighbours_of graph f) k z).fpga far)
        × (far + 1 ≡ distance) → (get_or (neighbours_of graph f) k z).wire ≤ e
    later e far p = go (cases_lt p.0 k) (cases_lt k p.0)
      where
        go : (p.0 < k) ⊎ (k ≤ p.0) → (k < p.0) ⊎ (p.0 ≤ k) → (get_or (neighbours_of graph f) k z).wire ≤ e
        go (inl before) h = absurd (none p.0 far z before (p.3 z) p.4)
        go (inr not_before) (inl after) = omega (arith, p.2 z, neighbours-rise graph f k p.0 z after p.1)
        go (inr not_before) (inr not_after) =
            let same : p.0 ≡ k = omega arith in
            omega (arith, p.2 z, ap (λ n. (get_or (neighbours_of graph f) n z).wire) same)

-- the first n neighbours of the FPGA at the head are reached, and nothing else changed
pub record IsPassing (graph : Graph) (head : ℕ) (before distances : List (Option ℕ)) (queued queue : List ℕ)
    (n : ℕ) : Type 0 where
  pub search : IsSearch (board_of graph) distances queue head
  pub longer : length queued ≤ length queue
  pub queue_kept : (i : ℕ) → i < length queued → slice_index queue i ≡ slice_index queued i
  pub kept : (f d : ℕ) → IsAt before f d → IsAt distances f d
  pub near : (l k : ℕ) (z : Neighbour) → k < n → IsAt before (slice_index queued head) l → (far : ℕ)
      × IsAt distances (get_or (neighbours_of graph (slice_index queued head)) k z).fpga far × (far ≤ l + 1)

-- none of them yet
pub IsPassing-none : (graph : Graph) (head : ℕ) (distances : List (Option ℕ)) (queue : List ℕ)
    → IsSearch (board_of graph) distances queue head → IsPassing graph head distances distances queue queue 0
IsPassing-none graph head distances queue search = record {
  search = search;
  longer = omega arith;
  queue_kept = λ i below. refl;
  kept = λ f d at. at;
  near = λ l k z below at. absurd (omega arith);
}

-- one more
pub IsPassing-more : (graph : Graph) (head l n : ℕ) (before distances distances' : List (Option ℕ))
    (queued queue queue' : List ℕ) (z : Neighbour) → IsGraph graph → head < length queued
    → IsAt before (slice_index queued head) l → IsPassing graph head before distances queued queue n
    → n < length (neighbours_of graph (slice_index queued head))
    → IsReached (get_or (neighbours_of graph (slice_index queued head)) n z).fpga (l + 1) distances distances'
    queue queue' → IsPassing graph head before distances' queued queue' (n + 1)
IsPassing-more graph head l n before distances distances' queued queue queue' z is_graph waiting here passing
    below reached = record {
      search = done.search;
      longer = omega (arith, done.longer, passing.longer);
      queue_kept = λ i within.
          done.queue_kept i (omega (arith, passing.longer)) ∙ passing.queue_kept i within;
      kept = λ f d at. done.kept f d (passing.kept f d at);
      near = near';
    }
  where
    f : ℕ
    f = slice_index queued head

    x : Neighbour
    x = get_or (neighbours_of graph (slice_index queued head)) n z

    same : slice_index queue head ≡ slice_index queued head
    same = passing.queue_kept head waiting

    done : IsStepDone (board_of graph) distances distances' queue queue' head l
        (get_or (neighbours_of graph (slice_index queued head)) n z).fpga
    done =
        let P : ℕ → Type 0 = λ v. IsAt distances v l in
        let Q : ℕ → Type 0 =
        λ v. Links (board_of graph) (get_or (neighbours_of graph (slice_index queued head)) n z).wire v
        (get_or (neighbours_of graph (slice_index queued head)) n z).fpga in
        step_done (board_of graph) distances distances' queue queue' head l
        (get_or (neighbours_of graph (slice_index queued head)) n z).wire
        (get_or (neighbours_of graph (slice_index queued head)) n z).fpga (record {
          search = passing.search;
          waiting = omega (arith, passing.longer);
          here = subst P (sym same) (passing.kept (slice_index queued head) l here);
          links = subst Q (sym same) (Links-from_neighbour graph (slice_index queued head) n z below);
          there = neighbour-below graph is_graph (slice_index queued head) n z below;
          reached = reached;
        })

    near' : (far k : ℕ) (y : Neighbour) → k < n + 1 → IsAt before (slice_index queued head) far → (dist : ℕ)
        × IsAt distances' (get_or (neighbours_of graph (slice_index queued head)) k y).fpga dist
        × (dist ≤ far + 1)
    near' far k y within at = go (cases_lt k n)
      where
        go : (k < n) ⊎ (n ≤ k) → (dist : ℕ)
            × IsAt distances' (get_or (neighbours_of graph (slice_index queued head)) k y).fpga dist
            × (dist ≤ far + 1)
        go (inl less) =
            let p = passing.near far k y less at in
            (p.0, done.kept (get_or (neighbours_of graph (slice_index queued head)) k y).fpga p.0 p.1, p.2)
        go (inr not_less) =
            let one : n ≡ k = omega arith in
            let P : ℕ → Type 0 =
            λ v. IsAt distances' (get_or (neighbours_of graph (slice_index queued head)) v y).fpga
            done.near.0 in
            let R : Neighbour → Type 0 = λ v. IsAt distances' v.fpga done.near.0 in
            let swapped = get_or_default (neighbours_of graph (slice_index queued head)) n z y below in (
              done.near.0,
              subst P one (subst R swapped done.near.1),
              omega (arith, done.near.2, at_unique before (slice_index queued head) l far here at),
            )

-- all of them
pub IsSearch-passed : (graph : Graph) (head l : ℕ) (before distances : List (Option ℕ))
    (queued queue : List ℕ) → head < length queued → IsAt before (slice_index queued head) l
    → IsPassing graph head before distances queued queue
    (length (neighbours_of graph (slice_index queued head)))
    → IsSearch (board_of graph) distances queue (head + 1)
IsSearch-passed graph head l before distances queued queue waiting here passing =
    IsSearch-next (board_of graph) distances queue head passing.search passed
  where
    same : slice_index queue head ≡ slice_index queued head
    same = passing.queue_kept head waiting

    passed : (d : ℕ) → IsAt distances (slice_index queue head) d
        → IsPassed (board_of graph) distances (slice_index queue head) d
    passed d at e x links =
        let P : ℕ → Type 0 = λ v. IsAt distances v d in
        let Q : ℕ → Type 0 = λ v. Links (board_of graph) e v x in
        let p = neighbour-from_links graph (slice_index queued head) e x (subst Q same links) in
        let z : Neighbour = record { wire = 0; fpga = 0 } in
        let n = passing.near l p.0 z p.1 here in
        let at_x : IsAt distances x n.0 = sym (ap (λ (v : Neighbour). get_or distances v.fpga None) (p.2 z))
        ∙ n.1 in
        let one = at_unique distances (slice_index queued head) l d
        (passing.kept (slice_index queued head) l here) (subst P same at) in
        (n.0, at_x, omega (arith, n.2, one))

-- the FPGA at the head, as the code reads it
pub head_there : (board : Board) (distances : List (Option ℕ)) (queue : List ℕ) (head f : ℕ)
    → IsSearch board distances queue head → head < length queue → f ≡ get_or queue head f
    → (f ≡ slice_index queue head) × (f < board.fpgas)
head_there board distances queue head f search waiting read =
    let is = get_or_read queue head f waiting read 0 in
    let q = search.queued head waiting in
    (is, omega (arith, is, at_below distances (slice_index queue head) q.0 q.1, search.count))

-- and its distance
pub head_distance : (board : Board) (distances : List (Option ℕ)) (queue : List ℕ) (head f : ℕ) (x : Option ℕ)
    (l : ℕ) → IsSearch board distances queue head → head < length queue → f ≡ get_or queue head f
    → x ≡ get_or distances f x → l ≡ unwrap_or x 0 → IsAt distances (slice_index queue head) l × (l ≤ head)
head_distance board distances queue head f x l search waiting read read_x is =
    let there = head_there board distances queue head f search waiting read in
    let q = search.queued head waiting in
    let P : ℕ → Type 0 = λ n. IsAt distances n q.0 in
    let x_is = get_or_read distances f x (omega (arith, there.1, search.count)) read_x None
    ∙ subst P (sym there.0) q.1 in
    let same : l ≡ q.0 = is ∙ ap (λ (y : Option ℕ). unwrap_or y 0) x_is in
    (q.1 ∙ ap (λ (n : ℕ). Some n) (sym same), omega (arith, same, q.2))
