-- How long the shortest walks over wires with directed lengths are, up to a cap.
use Rattle.std.proofs.Common.{◌≡◌, ℕ, zero, suc, ◌+◌, ◌<◌, ◌≤◌, ◌⊎◌, List, [], ◌∷◌, ◌++◌, length, refl, sym, ◌∙◌, subst, inl, inr, ⊎_elim, arith}
use Rattle.std.specs.Prelude.{min}
use Rattle.std.proofs.lemmas.Bool.{cases_eq, cases_lt}
use Rattle.std.proofs.lemmas.Option.{same_Some, slice_get_cases}
use Rattle.tdm_problem.specs.declared.wire.Wire.{Wire}
use Rattle.tdm_problem.specs.Board.{Board}
use Rattle.tdm_problem.specs.Walk.{Links}
use Rattle.tdm_problem.proofs.Walks.{AnyWire-from_links}
use Rattle.shortest_forest.specs.Arcs.{Arcs, IsArcWalk}

-- 0 where two numbers are equal, else the other number
abbrev zero_if : {a b : ℕ} → (a ≡ b) ⊎ ¬ (a ≡ b) → ℕ → ℕ
zero_if (inl even) cap = 0
zero_if (inr differ) cap = cap

module _ (board : Board) (arcs : Arcs) where
  -- one walk after another
  arc_walk-append : (a : ℕ) (es : List ℕ) (b before : ℕ) (fs : List ℕ) (c after : ℕ)
      → IsArcWalk board arcs a es b before → IsArcWalk board arcs b fs c after →
      IsArcWalk board arcs a (es ++ fs) c (before + after)
  arc_walk-append a [] b before fs c after first second =
      subst (λ (x : ℕ). IsArcWalk board arcs x fs c (before + after)) (sym first.0)
      (subst (λ (total : ℕ). IsArcWalk board arcs b fs c total) (omega (arith, first.1)) second)
  arc_walk-append a (e ∷ es) b before fs c after first second = (
    first.0,
    first.1,
    (
      first.2.0 + after,
      arc_walk-append first.0 es b first.2.0 fs c after first.2.1 second,
      omega (arith, first.2.2),
    ),
  )

  -- a walk from a to b is so long
  abbrev pub HasWalk : (a b total : ℕ) → Type 0
  HasWalk a b total = (es : List ℕ) × IsArcWalk board arcs a es b total

  -- a walk over one wire in between
  over : (a v u b e before after : ℕ) → Links board e v u → HasWalk a v before → HasWalk u b after
      → HasWalk a b (before + (arcs e v u + after))
  over a v u b e before after links first second = (
    first.0 ++ e ∷ second.0,
    arc_walk-append a first.0 v before (e ∷ second.0) b (arcs e v u + after) first.1 (
      u,
      links,
      (after, second.1, refl),
    ),
  )

  module _ (cap : ℕ) where
    -- no arc over the first wires leads on to less, and what is below the cap is the length of a walk
    record AreLeast (wires : ℕ) (least : ℕ → ℕ → ℕ) : Type 0 where
      same : (a : ℕ) → least a a ≡ 0
      arc : (e a x b : ℕ) → e < wires → Links board e a x → least a b ≤ arcs e a x + least x b
      way : (a b : ℕ) → least a b < cap → HasWalk a b (least a b)

    none : AreLeast 0 (λ a b. zero_if (cases_eq a b) cap)
    none = record {
      same = λ a. own a (cases_eq a a);
      arc = λ e a x b below links. absurd (omega (arith, below));
      way = λ a b less. go a b (cases_eq a b) less;
    }
      where
        own : (a : ℕ) (d : (a ≡ a) ⊎ ¬ (a ≡ a)) → zero_if d cap ≡ 0
        own a (inl even) = refl
        own a (inr differ) = absurd (differ refl)

        go : (a b : ℕ) (d : (a ≡ b) ⊎ ¬ (a ≡ b)) → zero_if d cap < cap → HasWalk a b (zero_if d cap)
        go a b (inl even) less = ([], (even, refl))
        go a b (inr differ) less = absurd (omega (arith, less))

    module _ (e v u : ℕ) (least : ℕ → ℕ → ℕ) where
      -- the wire may be used besides, once in either direction
      abbrev besides : ℕ → ℕ → ℕ
      besides a b = min (least a b) (min (least a v + (arcs e v u + least u b))
          (least a u + (arcs e u v + least v b)))

      more : Links board e v u → Links board e u v → ((a x : ℕ) → Links board e a x → ((a ≡ v) × (x ≡ u))
          ⊎ ((a ≡ u) × (x ≡ v))) → AreLeast e least → AreLeast (suc e) besides
      more forth back ends are = record {
        same = λ a. omega (arith, are.same a);
        arc = λ d a x b below links. ⊎_elim
            (λ (earlier : d < e). omega (
              arith,
              are.arc d a x b earlier links,
              are.arc d a x v earlier links,
              are.arc d a x u earlier links,
            ))
            (λ (last : e ≤ d). own d a x b (omega (arith, below, last)) links)
            (cases_lt d e);
        way = λ a b less. ⊎_elim
            (λ (is : besides a b ≡ least a b). subst (HasWalk a b) (sym is)
            (are.way a b (omega (arith, less, is))))
            (λ (not : ¬ (besides a b ≡ least a b)). ⊎_elim
            (λ (is : besides a b ≡ least a v + (arcs e v u + least u b)).
            subst (HasWalk a b) (sym is) (over a v u b e (least a v) (least u b) forth
            (are.way a v (omega (arith, less, is))) (are.way u b (omega (arith, less, is)))))
            (λ (other : ¬ (besides a b ≡ least a v + (arcs e v u + least u b))).
            let is : besides a b ≡ least a u + (arcs e u v + least v b) = omega (arith, not, other) in
            subst (HasWalk a b) (sym is) (over a u v b e (least a u) (least v b) back
            (are.way a u (omega (arith, less, is))) (are.way v b (omega (arith, less, is)))))
            (cases_eq (besides a b) (least a v + (arcs e v u + least u b))))
            (cases_eq (besides a b) (least a b));
      }
        where
          own : (d a x b : ℕ) → d ≡ e → Links board d a x → besides a b ≤ arcs d a x + besides x b
          own d a x b here links = subst (λ (w : ℕ). besides a b ≤ arcs w a x + besides x b) (sym here)
              (⊎_elim
              (λ (at : (a ≡ v) × (x ≡ u)). subst (λ (w : ℕ). besides w b ≤ arcs e w x + besides x b)
              (sym at.0)
              (subst (λ (w : ℕ). besides v b ≤ arcs e v w + besides w b) (sym at.1) (omega (
                arith,
                are.same v,
                are.same u,
              ))))
              (λ (at : (a ≡ u) × (x ≡ v)). subst (λ (w : ℕ). besides w b ≤ arcs e w x + besides x b)
              (sym at.0)
              (subst (λ (w : ℕ). besides u b ≤ arcs e u w + besides w b) (sym at.1) (omega (
                arith,
                are.same v,
                are.same u,
              ))))
              (ends a x (subst (λ (w : ℕ). Links board w a x) here links)))

    least-of : (wires : ℕ) → (least : ℕ → ℕ → ℕ) × AreLeast wires least
    least-of zero = (_, none)
    least-of (suc e) = elim (slice_get_cases board.wires e).1 [
      | inl (wire, inside, is, at) ↦
          let before = least-of e in (
            _,
            more e wire.a wire.b before.0 (record { wire = wire; is = is; ends = inl (refl, refl) })
                (record { wire = wire; is = is; ends = inr (refl, refl) })
                (λ a x links. ends wire a x links.ends (same_Some links.wire wire (sym links.is ∙ is)))
                before.1,
          )
      | inr (past, nothing) ↦
          let before = least-of e in (
            before.0,
            record {
              same = before.1.same;
              arc = λ d a x b below links. before.1.arc d a x b (omega (
                arith,
                below,
                past,
                AnyWire-from_links board d a x links,
              )) links;
              way = before.1.way;
            },
          )
    ]
      where
        ends : (wire : Wire) (a x : ℕ) {other : Wire} → ((other.a ≡ a) × (other.b ≡ x))
            ⊎ ((other.a ≡ x) × (other.b ≡ a)) → other ≡ wire → ((a ≡ wire.a) × (x ≡ wire.b))
            ⊎ ((a ≡ wire.b) × (x ≡ wire.a))
        ends wire a x at same = elim at [
          | inl forth ↦ inl (
            subst (λ (w : Wire). a ≡ w.a) same (sym forth.0),
            subst (λ (w : Wire). x ≡ w.b) same (sym forth.1),
          )
          | inr back ↦ inr (
            subst (λ (w : Wire). a ≡ w.b) same (sym back.1),
            subst (λ (w : Wire). x ≡ w.a) same (sym back.0),
          )
        ]

    -- no walk between two FPGAs is shorter than a number, which is the length of one where it is below the
    -- cap
    pub least-way : (a b : ℕ) → (least : ℕ) × ((es : List ℕ) (total : ℕ) → IsArcWalk board arcs a es b total
        → least ≤ total) × (least < cap → HasWalk a b least)
    least-way a b = (ways.0 a b, λ es total walk. go a es total walk, ways.1.way a b)
      where
        ways : (least : ℕ → ℕ → ℕ) × AreLeast (length board.wires) least
        ways = least-of (length board.wires)

        go : (x : ℕ) (es : List ℕ) (total : ℕ) → IsArcWalk board arcs x es b total → ways.0 x b ≤ total
        go x [] total walk = subst (λ (w : ℕ). ways.0 w b ≤ total) (sym walk.0) (omega (arith, ways.1.same b))
        go x (e ∷ es) total walk =
            omega (
              arith,
              walk.2.2,
              go walk.0 es walk.2.0 walk.2.1,
              ways.1.arc e x walk.0 b (AnyWire-from_links board e x walk.0 walk.1) walk.1,
            )
