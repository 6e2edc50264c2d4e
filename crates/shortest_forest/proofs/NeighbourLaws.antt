-- The list of neighbours has each wire at the FPGA once, and wires rise in it.
use Rattle.std.proofs.Common.{◌≡◌, ◌≢◌, ℕ, ◌+◌, ◌<◌, ◌⊎◌, Bool, true, false, cond, ◌==◌, List, [], ◌∷◌, ◌++◌, Some, length, get_or, zero, suc, refl, sym, ap, ◌∙◌, subst, inl, inr, arith}
use Rattle.std.specs.Prelude.{slice_get}
use Rattle.std.proofs.lemmas.Bool.Decides.{eqb_tells}
use Rattle.tdm_problem.specs.declared.wire.Wire.{Wire}
use Rattle.tdm_problem.specs.Walk.{Links}
use Rattle.board_graph.specs.declared.neighbour.Neighbour.{Neighbour}
use Rattle.board_graph.specs.Graph.{Graph, board_of}
use Rattle.board_graph.specs.Neighbours.{neighbour_by, neighbours_from, neighbours_of}

-- the wire has the ends f and x
abbrev HasEnds : ℕ → ℕ → Wire → Type 0
HasEnds f x w = ((w.a ≡ f) × (w.b ≡ x)) ⊎ ((w.a ≡ x) × (w.b ≡ f))

-- the neighbour is over a wire of the list, which has numbers from e on
record IsOver (f e : ℕ) (ws : List Wire) (n : Neighbour) : Type 0 where
  place : ℕ
  wire : Wire
  number : n.wire ≡ e + place
  is : slice_get ws place ≡ Some wire
  ends : HasEnds f n.fpga wire

abbrev first_of : Bool → Bool → Neighbour → Neighbour → List Neighbour
first_of a b x y = cond a (x ∷ []) (cond b (y ∷ []) [])

-- by one wire there is one neighbour, at the one end or the other, or none
by_first : (f e : ℕ) (w : Wire) → w.a ≡ f → neighbour_by f e w ≡ record { wire = e; fpga = w.b } ∷ []
by_first f e w is_a = go (eqb_tells w.a f)
  where
    go : (((w.a == f) ≡ true) × (w.a ≡ f)) ⊎ (((w.a == f) ≡ false) × (w.a ≢ f))
        → neighbour_by f e w ≡ record { wire = e; fpga = w.b } ∷ []
    go (inl yes') = ap (λ t. first_of t (w.b == f) (record { wire = e; fpga = w.b })
        (record { wire = e; fpga = w.a })) yes'.0
    go (inr no') = absurd (no'.1 is_a)

by_second : (f e : ℕ) (w : Wire) → w.a ≢ f → w.b ≡ f → neighbour_by f e w ≡ record { wire = e; fpga = w.a }
    ∷ []
by_second f e w not_a is_b = go (eqb_tells w.a f) (eqb_tells w.b f)
  where
    go : (((w.a == f) ≡ true) × (w.a ≡ f)) ⊎ (((w.a == f) ≡ false) × (w.a ≢ f))
        → (((w.b == f) ≡ true) × (w.b ≡ f)) ⊎ (((w.b == f) ≡ false) × (w.b ≢ f))
        → neighbour_by f e w ≡ record { wire = e; fpga = w.a } ∷ []
    go (inl yes') h = absurd (not_a yes'.1)
    go (inr no') (inl yes') =
        ap (λ t. first_of t (w.b == f) (record { wire = e; fpga = w.b }) (record { wire = e; fpga = w.a }))
        no'.0
        ∙ ap (λ t. first_of false t (record { wire = e; fpga = w.b }) (record { wire = e; fpga = w.a }))
        yes'.0
    go (inr no') (inr none) = absurd (none.1 is_b)

by_none : (f e : ℕ) (w : Wire) → w.a ≢ f → w.b ≢ f → neighbour_by f e w ≡ []
by_none f e w not_a not_b = go (eqb_tells w.a f) (eqb_tells w.b f)
  where
    go : (((w.a == f) ≡ true) × (w.a ≡ f)) ⊎ (((w.a == f) ≡ false) × (w.a ≢ f))
        → (((w.b == f) ≡ true) × (w.b ≡ f)) ⊎ (((w.b == f) ≡ false) × (w.b ≢ f)) → neighbour_by f e w ≡ []
    go (inl yes') h = absurd (not_a yes'.1)
    go (inr no') (inl yes') = absurd (not_b yes'.1)
    go (inr no') (inr none) =
        ap (λ t. first_of t (w.b == f) (record { wire = e; fpga = w.b }) (record { wire = e; fpga = w.a }))
        no'.0
        ∙ ap (λ t. first_of false t (record { wire = e; fpga = w.b }) (record { wire = e; fpga = w.a }))
        none.0

-- the neighbours by a first wire and by the others
data ByFirst (f e : ℕ) (w : Wire) (ws : List Wire) : Type 0 where
  one : (x : ℕ) → HasEnds f x w → neighbours_from f e (w ∷ ws) ≡ record { wire = e; fpga = x }
      ∷ neighbours_from f (e + 1) ws → ByFirst f e w ws
  other : ((x : ℕ) → HasEnds f x w → ⊥) → neighbours_from f e (w ∷ ws) ≡ neighbours_from f (e + 1) ws
      → ByFirst f e w ws

by_first_wire : (f e : ℕ) (w : Wire) (ws : List Wire) → ByFirst f e w ws
by_first_wire f e w ws = go (eqb_tells w.a f) (eqb_tells w.b f)
  where
    go : (((w.a == f) ≡ true) × (w.a ≡ f)) ⊎ (((w.a == f) ≡ false) × (w.a ≢ f))
        → (((w.b == f) ≡ true) × (w.b ≡ f)) ⊎ (((w.b == f) ≡ false) × (w.b ≢ f)) → ByFirst f e w ws
    go (inl first) h = one w.b (inl (first.1, refl)) (ap (λ xs. xs ++ neighbours_from f (e + 1) ws)
        (by_first f e w first.1))
    go (inr none) (inl second) =
        one w.a (inr (refl, second.1)) (ap (λ xs. xs ++ neighbours_from f (e + 1) ws)
        (by_second f e w none.1 second.1))
    go (inr none) (inr neither) =
        other (λ x h. no_end x h) (ap (λ xs. xs ++ neighbours_from f (e + 1) ws)
        (by_none f e w none.1 neither.1))
      where
        no_end : (x : ℕ) → HasEnds f x w → ⊥
        no_end x (inl ends) = none.1 ends.0
        no_end x (inr ends) = neither.1 ends.1

-- a neighbour over a later wire
IsOver-later : (f e : ℕ) (w : Wire) (ws : List Wire) (n : Neighbour) → IsOver f (e + 1) ws n
    → IsOver f e (w ∷ ws) n
IsOver-later f e w ws n over' = record {
  place = suc over'.place;
  wire = over'.wire;
  number = omega (arith, over'.number);
  is = over'.is;
  ends = over'.ends;
}

-- each neighbour is over a wire
over_one : (f e : ℕ) (w : Wire) (ws : List Wire) (x : ℕ) → HasEnds f x w → (k : ℕ) (d : Neighbour)
    → k < length (neighbours_from f (e + 1) ws) + 1
    → ((j : ℕ) (d : Neighbour) → j < length (neighbours_from f (e + 1) ws)
    → IsOver f (e + 1) ws (get_or (neighbours_from f (e + 1) ws) j d))
    → IsOver f e (w ∷ ws) (get_or (record { wire = e; fpga = x } ∷ neighbours_from f (e + 1) ws) k d)
over_one f e w ws x ends zero d below later = record {
  place = 0;
  wire = w;
  number = omega arith;
  is = refl;
  ends = ends;
}
over_one f e w ws x ends (suc k) d below later = IsOver-later f e w ws _ (later k d (omega arith))

over : (f e : ℕ) (ws : List Wire) (k : ℕ) (d : Neighbour) → k < length (neighbours_from f e ws)
    → IsOver f e ws (get_or (neighbours_from f e ws) k d)
over f e [] k d below = absurd (omega arith)
over f e (w ∷ ws) k d below = go (by_first_wire f e w ws) (over f (e + 1) ws)
  where
    go : ByFirst f e w ws → ((j : ℕ) (d : Neighbour) → j < length (neighbours_from f (e + 1) ws)
        → IsOver f (e + 1) ws (get_or (neighbours_from f (e + 1) ws) j d))
        → IsOver f e (w ∷ ws) (get_or (neighbours_from f e (w ∷ ws)) k d)
    go (one x ends split) later =
        let long : length (neighbours_from f e (w ∷ ws)) ≡ length (neighbours_from f (e + 1) ws) + 1 =
        ap length split ∙ omega arith in
        let P : List Neighbour → Type 0 = λ xs. IsOver f e (w ∷ ws) (get_or xs k d) in
        subst P (sym split) (over_one f e w ws x ends k d (omega arith) later)
    go (other none split) later =
        let long : length (neighbours_from f e (w ∷ ws)) ≡ length (neighbours_from f (e + 1) ws) =
        ap length split in
        let P : List Neighbour → Type 0 = λ xs. IsOver f e (w ∷ ws) (get_or xs k d) in
        subst P (sym split) (IsOver-later f e w ws _ (later k d (omega arith)))

-- a wire has one end other than this
ends_same : (f x y : ℕ) (w : Wire) → HasEnds f x w → HasEnds f y w → x ≡ y
ends_same f x y w (inl h) (inl k) = sym h.1 ∙ k.1
ends_same f x y w (inl h) (inr k) = sym h.1 ∙ k.1 ∙ sym h.0 ∙ k.0
ends_same f x y w (inr h) (inl k) = sym h.0 ∙ k.0 ∙ sym h.1 ∙ k.1
ends_same f x y w (inr h) (inr k) = sym h.0 ∙ k.0

some_same : (v w : Wire) → Some v ≡ Some w → v ≡ w
some_same v w e = cc

-- each wire at the FPGA gives a neighbour
record IsPlaced (f e : ℕ) (ws : List Wire) (number x : ℕ) : Type 0 where
  place : ℕ
  below : place < length (neighbours_from f e ws)
  is : (d : Neighbour) → get_or (neighbours_from f e ws) place d ≡ record { wire = number; fpga = x }

placed_one : (f e : ℕ) (v : Wire) (ws : List Wire) (y : ℕ) → neighbours_from f e (v ∷ ws) ≡ record {
  wire = e;
  fpga = y;
} ∷ neighbours_from f (e + 1) ws → (i x : ℕ) → IsPlaced f (e + 1) ws ((e + 1) + i) x
    → IsPlaced f e (v ∷ ws) (e + suc i) x
placed_one f e v ws y split i x p =
    let long : length (neighbours_from f e (v ∷ ws)) ≡ length (neighbours_from f (e + 1) ws) + 1 =
    ap length split ∙ omega arith in
    let number : (e + 1) + i ≡ e + suc i = omega arith in
    record {
      place = suc p.place;
      below = omega (arith, p.below);
      is = λ d. ap (λ xs. get_or xs (suc p.place) d) split ∙ p.is d ∙ ap (λ (n : ℕ). let r : Neighbour =
          record { wire = n; fpga = x } in r) number;
    }

placed_other : (f e : ℕ) (v : Wire) (ws : List Wire) → neighbours_from f e (v ∷ ws)
    ≡ neighbours_from f (e + 1) ws → (i x : ℕ) → IsPlaced f (e + 1) ws ((e + 1) + i) x
    → IsPlaced f e (v ∷ ws) (e + suc i) x
placed_other f e v ws split i x p =
    let long : length (neighbours_from f e (v ∷ ws)) ≡ length (neighbours_from f (e + 1) ws) =
    ap length split in
    let number : (e + 1) + i ≡ e + suc i = omega arith in
    record {
      place = p.place;
      below = omega (arith, p.below);
      is = λ d. ap (λ xs. get_or xs p.place d) split ∙ p.is d ∙ ap (λ (n : ℕ). let r : Neighbour =
          record { wire = n; fpga = x } in r) number;
    }

placed_here : (f e : ℕ) (v : Wire) (ws : List Wire) (x : ℕ) → HasEnds f x v → ByFirst f e v ws
    → IsPlaced f e (v ∷ ws) (e + 0) x
placed_here f e v ws x ends (one y ends' split) =
    let long : length (neighbours_from f e (v ∷ ws)) ≡ length (neighbours_from f (e + 1) ws) + 1 =
    ap length split ∙ omega arith in
    let number : e ≡ e + 0 = omega arith in
    record {
      place = 0;
      below = omega arith;
      is = λ d. ap (λ xs. get_or xs 0 d) split
          ∙ ap (λ (z : ℕ). let r : Neighbour = record { wire = e; fpga = z } in
          r) (ends_same f y x v ends' ends)
          ∙ ap (λ (n : ℕ). let r : Neighbour = record { wire = n; fpga = x } in r) number;
    }
placed_here f e v ws x ends (other none split) = absurd (none x ends)

placed : (f e : ℕ) (ws : List Wire) (i : ℕ) (w : Wire) (x : ℕ) → slice_get ws i ≡ Some w → HasEnds f x w
    → IsPlaced f e ws (e + i) x
placed f e [] i w x is ends = absurd (cc is)
placed f e (v ∷ ws) zero w x is ends =
    let same = some_same v w is in
    placed_here f e v ws x (subst (HasEnds f x) (sym same) ends) (by_first_wire f e v ws)
placed f e (v ∷ ws) (suc i) w x is ends = go (by_first_wire f e v ws) (placed f (e + 1) ws i w x is ends)
  where
    go : ByFirst f e v ws → IsPlaced f (e + 1) ws ((e + 1) + i) x → IsPlaced f e (v ∷ ws) (e + suc i) x
    go (one y ends' split) p = placed_one f e v ws y split i x p
    go (other none split) p = placed_other f e v ws split i x p

-- wires rise
rising_one : (f e : ℕ) (ws : List Wire) (x i j : ℕ) (d : Neighbour) → i < j
    → j < length (neighbours_from f (e + 1) ws) + 1
    → ((i j : ℕ) (d : Neighbour) → i < j → j < length (neighbours_from f (e + 1) ws)
    → (get_or (neighbours_from f (e + 1) ws) i d).wire < (get_or (neighbours_from f (e + 1) ws) j d).wire)
    → (get_or (record { wire = e; fpga = x } ∷ neighbours_from f (e + 1) ws) i d).wire
    < (get_or (record { wire = e; fpga = x } ∷ neighbours_from f (e + 1) ws) j d).wire
rising_one f e ws x i zero d before below later = absurd (omega arith)
rising_one f e ws x zero (suc j) d before below later =
    let o = over f (e + 1) ws j d (omega arith) in omega (arith, o.number)
rising_one f e ws x (suc i) (suc j) d before below later = later i j d (omega arith) (omega arith)

rising : (f e : ℕ) (ws : List Wire) (i j : ℕ) (d : Neighbour) → i < j → j < length (neighbours_from f e ws)
    → (get_or (neighbours_from f e ws) i d).wire < (get_or (neighbours_from f e ws) j d).wire
rising f e [] i j d before below = absurd (omega arith)
rising f e (w ∷ ws) i j d before below = go (by_first_wire f e w ws) (rising f (e + 1) ws)
  where
    go : ByFirst f e w ws → ((i j : ℕ) (d : Neighbour) → i < j → j < length (neighbours_from f (e + 1) ws)
        → (get_or (neighbours_from f (e + 1) ws) i d).wire
        < (get_or (neighbours_from f (e + 1) ws) j d).wire) → (get_or (neighbours_from f e (w ∷ ws)) i d).wire
        < (get_or (neighbours_from f e (w ∷ ws)) j d).wire
    go (one x ends split) later =
        let long : length (neighbours_from f e (w ∷ ws)) ≡ length (neighbours_from f (e + 1) ws) + 1 =
        ap length split ∙ omega arith in
        let P : List Neighbour → Type 0 = λ xs. (get_or xs i d).wire < (get_or xs j d).wire in
        subst P (sym split) (rising_one f e ws x i j d before (omega arith) later)
    go (other none split) later =
        let long : length (neighbours_from f e (w ∷ ws)) ≡ length (neighbours_from f (e + 1) ws) =
        ap length split in
        let P : List Neighbour → Type 0 = λ xs. (get_or xs i d).wire < (get_or xs j d).wire in
        subst P (sym split) (later i j d before (omega arith))

-- each neighbour of FPGA f is joined with it by its wire
pub Links-from_neighbour : (graph : Graph) (f k : ℕ) (d : Neighbour) → k < length (neighbours_of graph f)
    → Links (board_of graph) (get_or (neighbours_of graph f) k d).wire f
    (get_or (neighbours_of graph f) k d).fpga
Links-from_neighbour graph f k d below =
    let o = over f 0 graph.wires k d below in
    let number : (get_or (neighbours_of graph f) k d).wire ≡ o.place = omega (arith, o.number) in
    record { wire = o.wire; is = ap (slice_get graph.wires) number ∙ o.is; ends = o.ends }

-- each wire at FPGA f has a place among its neighbours
pub neighbour-from_links : (graph : Graph) (f e x : ℕ) → Links (board_of graph) e f x
    → (k : ℕ) × (k < length (neighbours_of graph f))
    × ((d : Neighbour) → get_or (neighbours_of graph f) k d ≡ record { wire = e; fpga = x })
neighbour-from_links graph f e x links =
    let p = placed f 0 graph.wires e links.wire x links.is links.ends in
    let number : 0 + e ≡ e = omega arith in (
      p.place,
      p.below,
      λ d. p.is d ∙ ap (λ (n : ℕ). let r : Neighbour = record { wire = n; fpga = x } in
          r) number,
    )

-- wires rise among the neighbours of an FPGA
pub neighbours-rise : (graph : Graph) (f i j : ℕ) (d : Neighbour) → i < j → j < length (neighbours_of graph f)
    → (get_or (neighbours_of graph f) i d).wire < (get_or (neighbours_of graph f) j d).wire
neighbours-rise graph f i j d before below = rising f 0 graph.wires i j d before below
