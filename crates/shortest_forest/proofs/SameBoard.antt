-- What is said of walks, hops and parents depends on the wires of a board alone.
use Rattle.std.proofs.Common.{◌≡◌, ℕ, ◌+◌, ◌<◌, List, [], ◌∷◌, Option, Some, None, length, sym, subst}
use Rattle.std.specs.Prelude.{slice_get, MatchOption, slice_index_or}
use Rattle.tdm_problem.specs.declared.wire.Wire.{Wire}
use Rattle.tdm_problem.specs.Board.{Board}
use Rattle.tdm_problem.specs.Walk.{Links, IsWalk, AnyWire, IsConnectable}
use Rattle.tdm_problem.specs.Distance.{IsHopCount}
use Rattle.shortest_forest.specs.Baseline.{IsNearer, IsParent, IsParentChain, IsOnChain, IsBaseTree}
use Rattle.shortest_forest.specs.Reach.{Reach, HasNoWalk, AreHops, HasHops, parent_of}

pub Links-same : (b c : Board) → b.wires ≡ c.wires → (e x y : ℕ) → Links b e x y → Links c e x y
Links-same b c same e x y l =
    let P : List Wire → Type 0 = λ ws. slice_get ws e ≡ Some l.wire in
    record { wire = l.wire; is = subst P same l.is; ends = l.ends }

pub IsWalk-same : (b c : Board) → b.wires ≡ c.wires → (a : ℕ) (es : List ℕ) (z : ℕ)
    → IsWalk b (AnyWire b) a es z → IsWalk c (AnyWire c) a es z
IsWalk-same b c same a [] z walk = walk
IsWalk-same b c same a (e ∷ es) z walk =
    let P : List Wire → Type 0 = λ ws. e < length ws in (
      subst P same walk.0,
      (
        walk.1.0,
        Links-same b c same e a walk.1.0 walk.1.1,
        IsWalk-same b c same walk.1.0 es z walk.1.2,
      ),
    )

pub IsHopCount-same : (b c : Board) → b.wires ≡ c.wires → (x y d : ℕ) → IsHopCount b x y d
    → IsHopCount c x y d
IsHopCount-same b c same x y d hops = record {
  walk = (hops.walk.0, IsWalk-same b c same x hops.walk.0 y hops.walk.1, hops.walk.2);
  least = λ es walk. hops.least es (IsWalk-same c b (sym same) x es y walk);
}

IsNearer-same : (b c : Board) → b.wires ≡ c.wires → (s v u : ℕ) → IsNearer b s v u → IsNearer c s v u
IsNearer-same b c same s v u near =
    (near.0, IsHopCount-same b c same s u near.0 near.1, IsHopCount-same b c same s v (near.0 + 1) near.2)

pub IsParent-same : (b c : Board) → b.wires ≡ c.wires → (s v e u : ℕ) → IsParent b s v e u
    → IsParent c s v e u
IsParent-same b c same s v e u parent = record {
  links = Links-same b c same e v u parent.links;
  nearer = IsNearer-same b c same s v u parent.nearer;
  least = λ d x links near. parent.least d x (Links-same c b (sym same) d v x links)
      (IsNearer-same c b (sym same) s v x near);
}

pub IsParentChain-same : (b c : Board) → b.wires ≡ c.wires → (s v : ℕ) (es : List ℕ) (u : ℕ)
    → IsParentChain b s v es u → IsParentChain c s v es u
IsParentChain-same b c same s v [] u chain = chain
IsParentChain-same b c same s v (e ∷ es) u chain = (
  chain.0,
  IsParent-same b c same s v e chain.0 chain.1,
  IsParentChain-same b c same s chain.0 es u chain.2,
)

IsOnChain-same : (b c : Board) → b.wires ≡ c.wires → (s : ℕ) (fpgas : List ℕ) (e : ℕ) → IsOnChain b s fpgas e
    → IsOnChain c s fpgas e
IsOnChain-same b c same s fpgas e on =
    (on.0, on.1, (on.2.0, IsParentChain-same b c same s on.0 on.2.0 s on.2.1, on.2.2))

pub IsBaseTree-same : (b c : Board) → b.wires ≡ c.wires → (s : ℕ) (fpgas wires : List ℕ)
    → IsBaseTree b s fpgas wires → IsBaseTree c s fpgas wires
IsBaseTree-same b c same s fpgas wires tree = record {
  rising = tree.rising;
  reached = λ t there. (let r = tree.reached t there in (r.0, IsParentChain-same b c same s t r.0 s r.1));
  exact = λ e. (
    λ there. IsOnChain-same b c same s fpgas e ((tree.exact e).0 there),
    λ on. (tree.exact e).1 (IsOnChain-same c b (sym same) s fpgas e on),
  );
}

pub IsConnectable-same : (b c : Board) → b.wires ≡ c.wires → (fpgas : List ℕ) → IsConnectable b fpgas
    → IsConnectable c fpgas
IsConnectable-same b c same fpgas joins x y there_x there_y =
    let walk = joins x y there_x there_y in (walk.0, IsWalk-same b c same x walk.0 y walk.1)

match_same : (x : Option ℕ) (N M : Type 0) (P Q : ℕ → Type 0) → (N → M) → ((d : ℕ) → P d → Q d)
    → MatchOption x N P → MatchOption x M Q
match_same None N M P Q none some h = none h
match_same (Some d) N M P Q none some h = some d h

AreHops-same : (b c : Board) → b.wires ≡ c.wires → b.fpgas ≡ c.fpgas → (s : ℕ) (distances : List (Option ℕ))
    → AreHops b s distances → AreHops c s distances
AreHops-same b c same count s distances hops =
    let Below : ℕ → ℕ → Type 0 = λ f n. f < n in
    let Long : ℕ → Type 0 = λ n. length distances ≡ n in
    record {
      count = subst Long count hops.count;
      exact = λ f below. match_same (slice_index_or distances f None) (HasNoWalk b s f) (HasNoWalk c s f)
          (IsHopCount b s f) (IsHopCount c s f)
          (λ none es walk. none es (IsWalk-same c b (sym same) s es f walk))
          (λ d. IsHopCount-same b c same s f d)
          (hops.exact f (subst (Below f) (sym count) below));
    }

-- the forest of one board is that of each board with its FPGAs and wires
pub HasHops-same : (b c : Board) → b.wires ≡ c.wires → b.fpgas ≡ c.fpgas → (reach : Reach) → HasHops b reach
    → HasHops c reach
HasHops-same b c same count reach hops =
    let Below : ℕ → ℕ → Type 0 = λ f n. f < n in
    let Long : ℕ → Type 0 = λ n. length reach.parents ≡ n in
    record {
      root = subst (Below reach.root) count hops.root;
      distances = AreHops-same b c same count reach.root reach.distances hops.distances;
      count = subst Long count hops.count;
      parents = λ f below. match_same (parent_of reach f) _ _ (λ e. (u : ℕ) × IsParent b reach.root f e u)
          (λ e. (u : ℕ) × IsParent c reach.root f e u)
          (λ none. none)
          (λ e p. (p.0, IsParent-same b c same reach.root f e p.0 p.1))
          (hops.parents f (subst (Below f) (sym count) below));
      chains = λ f d at. (let h = hops.chains f d at in (
        h.0,
        IsParentChain-same b c same reach.root f h.0 reach.root h.1,
        h.2,
        subst (Below d) count h.3,
      ));
    }
