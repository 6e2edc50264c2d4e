-- A routing over given trees is legal where its ratios are even and fit.
use Rattle.std.proofs.Common.{◌≡◌, ◌≢◌, ℕ, ◌+◌, ◌<◌, List, [], ◌∷◌, ◌++◌, length, map, get_or, take, ap, sym, ◌∙◌, subst, arith}
use Rattle.std.specs.Prelude.{All, AllPairs, Contains}
use Rattle.std.proofs.lemmas.List.{length-map, get_or-map, map-append, take_more}
use Rattle.std.proofs.lemmas.List.Elements.{All-map, All-push, All-weaker}
use Rattle.tdm_problem.specs.declared.solution.WireUse.{WireUse}
use Rattle.tdm_problem.specs.Board.{Board}
use Rattle.tdm_problem.specs.Fit.{FitsLanes}
use Rattle.tdm_problem.specs.Legal.{IsEvenRatio, IsLegal, terminals_of}
use Rattle.tdm_problem.specs.Routing.{Routing, wires_of, ratios_of, ratios_on, IsFor}
use Rattle.tdm_problem.specs.Trees.{AreTreesFor, HasRisingRows, trees_of}
use Rattle.tdm_problem.specs.Walk.{Joins}
use Rattle.even_legalise.specs.Uniform.{JoinsEachNet}
use Rattle.even_legalise.proofs.UniformIsLegal.{distinct_rows}
use Rattle.worst_refine.specs.Traded.{IsSmallRatio, HasSmallRatios}
use Rattle.worst_refine.proofs.Lowering.{below_from_wires, below_of_wires}

-- one more item, in a list that is mapped to the front of another
map_push : {X Y : Type 0} (f : X → Y) (xs new : List X) (ys : List Y) (i : ℕ) (x : X) (d : Y) → i < length ys
    → new ≡ xs ++ x ∷ [] → f x ≡ get_or ys i d → map f xs ≡ take i ys → map f new ≡ take (i + 1) ys
map_push f xs new ys i x d inside is at so_far =
    ap (map f) is ∙ (map-append f xs (x ∷ [])
    ∙ (ap (λ zs. zs ++ f x ∷ []) so_far
    ∙ (ap (λ y. take i ys ++ y ∷ []) at ∙ sym (take_more ys i d inside))))

-- one more use, and one more net
pub use_push : (uses new : List WireUse) (wires : List ℕ) (i : ℕ) (u : WireUse) → i < length wires
    → new ≡ uses ++ u ∷ [] → u.wire ≡ get_or wires i 0 → IsSmallRatio u.ratio → (wires_of uses ≡ take i wires)
    × All IsSmallRatio (ratios_of uses) → (wires_of new ≡ take (i + 1) wires)
    × All IsSmallRatio (ratios_of new)
use_push uses new wires i u inside is at small so_far = (
  map_push (λ (x : WireUse). x.wire) uses new wires i u 0 inside is at so_far.0,
  subst (λ (rs : List ℕ). All IsSmallRatio rs)
      (sym (ap ratios_of is ∙ map-append (λ (x : WireUse). x.ratio) uses (u ∷ [])))
      (All-push IsSmallRatio (ratios_of uses) u.ratio so_far.1 small),
)

pub net_push : (routing new : Routing) (trees : List (List ℕ)) (n : ℕ) (uses : List WireUse)
    → n < length trees → new ≡ routing ++ uses ∷ [] → wires_of uses ≡ get_or trees n []
    → All IsSmallRatio (ratios_of uses) → (trees_of routing ≡ take n trees)
    × All (λ us. All IsSmallRatio (ratios_of us)) routing → (trees_of new ≡ take (n + 1) trees)
    × All (λ us. All IsSmallRatio (ratios_of us)) new
net_push routing new trees n uses inside is at small so_far = (
  map_push wires_of routing new trees n uses [] inside is at so_far.0,
  subst (λ (r : Routing). All (λ us. All IsSmallRatio (ratios_of us)) r) (sym is)
      (All-push (λ us. All IsSmallRatio (ratios_of us)) routing uses so_far.1 small),
)

-- small ratios are even and at most the greatest
pub even_of_small : (routing : Routing) → All (λ us. All IsSmallRatio (ratios_of us)) routing
    → All (λ us. All IsEvenRatio (ratios_of us)) routing
even_of_small routing small = λ n d inside. λ k e there. (small n d inside k e there).0

pub most_of_small : (routing : Routing) → All (λ us. All IsSmallRatio (ratios_of us)) routing
    → HasSmallRatios routing
most_of_small routing small = λ n d inside. λ k e there. (small n d inside k e there).1

-- the wires of a net are those of its tree
wires_at : (trees : List (List ℕ)) (routing : Routing) (n : ℕ) (none : List WireUse)
    → trees_of routing ≡ trees → n < length routing → wires_of (get_or routing n none) ≡ get_or trees n []
wires_at trees routing n none is inside = sym (get_or-map wires_of routing n none [] inside)
    ∙ ap (λ ts. get_or ts n []) is

nets_of : (trees : List (List ℕ)) (routing : Routing) → trees_of routing ≡ trees
    → length routing ≡ length trees
nets_of trees routing is = sym (length-map routing wires_of) ∙ ap length is

pub is_for_trees : (board : Board) (trees : List (List ℕ)) (routing : Routing) → AreTreesFor board trees
    → HasRisingRows trees → trees_of routing ≡ trees → IsFor board routing
is_for_trees board trees routing for rising is = record {
  nets = nets_of trees routing is ∙ for.nets;
  there = λ n none inside.
      below_from_wires (length board.wires) (get_or routing n none)
      (subst (λ (ws : List ℕ). All (λ w. w < length board.wires) ws)
      (sym (wires_at trees routing n none is inside))
      (for.there n [] (omega (arith, nets_of trees routing is))));
  distinct = λ n none inside.
      subst (λ (ws : List ℕ). AllPairs (λ d e. d ≢ e) ws) (sym (wires_at trees routing n none is inside))
      (distinct_rows trees rising n [] (omega (arith, nets_of trees routing is)));
}

pub legal_on_trees : (board : Board) (trees : List (List ℕ)) (routing : Routing) → AreTreesFor board trees
    → HasRisingRows trees → JoinsEachNet board trees → trees_of routing ≡ trees
    → All (λ uses. All IsEvenRatio (ratios_of uses)) routing
    → ((e : ℕ) → e < length board.wires → FitsLanes (ratios_on routing e) 1) → IsLegal board routing
legal_on_trees board trees routing for rising joined is even fits = record {
  is_for = is_for_trees board trees routing for rising is;
  joined = λ n inside.
      subst (λ (ws : List ℕ). Joins board (Contains ws) (terminals_of board n))
      (sym (wires_at trees routing n [] is (omega (arith, nets_of trees routing is, for.nets))))
      (joined n inside);
  even = even;
  fits = fits;
}

-- the trees of a legal routing are for the board, and each joins its net
pub trees_for_legal : (board : Board) (routing : Routing) → IsLegal board routing
    → AreTreesFor board (trees_of routing)
trees_for_legal board routing legal = record {
  nets = length-map routing wires_of ∙ legal.is_for.nets;
  there = All-map (λ (ws : List ℕ). All (λ e. e < length board.wires) ws) wires_of routing
      (All-weaker (λ uses. All (λ (u : WireUse). u.wire < length board.wires) uses)
      (λ uses. All (λ e. e < length board.wires) (wires_of uses))
      (λ uses. below_of_wires (length board.wires) uses) routing legal.is_for.there);
}

pub trees_join : (board : Board) (routing : Routing) → IsLegal board routing
    → JoinsEachNet board (trees_of routing)
trees_join board routing legal = λ n inside.
    subst (λ (ws : List ℕ). Joins board (Contains ws) (terminals_of board n))
    (sym (get_or-map wires_of routing n [] [] (omega (arith, legal.is_for.nets)))) (legal.joined n inside)
