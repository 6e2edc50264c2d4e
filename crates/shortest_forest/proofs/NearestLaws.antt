-- What is found at the front of the queue.
use Rattle.std.proofs.Common.{◌≡◌, ℕ, ◌<◌, ◌≤◌, List, [], ◌∷◌, Option, Some, None, sym, ap, ◌∙◌, subst, arith, Contains}
use Rattle.std.specs.Prelude.{slice_get}
use Rattle.std.specs.Option.{unwrap_or}
use Rattle.std.specs.declared.cmp.Reverse.{Reverse}
use Rattle.tdm_problem.specs.Board.{Board}
use Rattle.shortest_forest.specs.Arcs.{Arcs, IsGoal}
use Rattle.shortest_forest.specs.Labels.{Labels, label_at, distance_in, IsLabelled, IsAtLabel, IsWaiting, IsFront, IsUnderWay, IsNearest, AreFar}
use Rattle.shortest_forest.proofs.UnderWay.{no_walk_shorter}

abbrev entry_or : Reverse (ℕ × ℕ) → Option (Reverse (ℕ × ℕ)) → Reverse (ℕ × ℕ)
entry_or x None = x
entry_or x (Some y) = y

pub front_waits : (s : Labels) (d f : ℕ) → IsFront s d f → IsWaiting s f d
front_waits s d f is = go s.queue is
  where
    go : (q : List (Reverse (ℕ × ℕ)))
        → slice_get q 0 ≡ Some (let e : Reverse (ℕ × ℕ) = record { 0 = (d, f) } in e)
        → Contains q (let e : Reverse (ℕ × ℕ) = record { 0 = (d, f) } in e)
    go [] is = absurd (cc is)
    go (x ∷ q) is =
        let e : Reverse (ℕ × ℕ) = record { 0 = (d, f) } in
        (0, omega arith, ap (entry_or e) is)

module _ (board : Board) (arcs : Arcs) (bound : ℕ → ℕ) (cap : ℕ) (s : Labels)
    (search : IsUnderWay board arcs bound cap s) where
  pub AreFar-made : ((f d : ℕ) → IsWaiting s f d → cap ≤ d) → AreFar board arcs bound cap s
  AreFar-made far = record {
    nearer_settled = far;
    least = λ lower f d es g total at goal walk.
        no_walk_shorter board arcs bound cap cap s search (omega arith) far lower f d es g total at goal walk;
  }

  pub IsNearest-made : (key d f : ℕ) → IsFront s key f → ((x near : ℕ) → IsWaiting s x near → key ≤ near)
      → IsAtLabel s f d → IsGoal s.goals f → d ≤ key → key < cap → IsNearest board arcs bound cap s f
  IsNearest-made key d f front least at goal low below = record {
    goal_there = search.labelled.inside f key (front_waits s key f front);
    marked = goal;
    distance = d;
    label = at;
    below = omega (arith, low, below);
    nearer_settled = λ x near waits. omega (arith, least x near waits, low);
    least = λ lower x near es g total at' goal' walk. omega (
      arith,
      low,
      no_walk_shorter board arcs bound cap key s search (omega (arith, below)) least lower x near es g total
          at' goal' walk,
    );
  }

-- what waits has a label, no longer than its key, and this is its distance
pub label-read : (board : Board) (arcs : Arcs) (s : Labels) → IsLabelled board arcs s → (f key : ℕ)
    → IsWaiting s f key → (found : Option ℕ) (distance : ℕ) → found ≡ distance_in (label_at s f)
    → distance ≡ unwrap_or found 0 → IsAtLabel s f distance × (distance ≤ key)
label-read board arcs s labelled f key waits found distance is read =
    let at = labelled.keyed f key waits in
    let there : found ≡ Some at.0 = is ∙ ap distance_in at.1.1 in
    let same : distance ≡ at.0 = read ∙ ap (λ (o : Option ℕ). unwrap_or o 0) there in
    (subst (λ (n : ℕ). IsAtLabel s f n) (sym same) at.1, omega (arith, same, at.2))
