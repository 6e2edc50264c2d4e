-- How far a potential rises along a walk: the levels between the ends of each wire are taken away in turn,
-- until no level is left that the walk could cross.
use Rattle.std.proofs.Common.{◌≡◌, ℕ, zero, suc, ◌+◌, ◌-◌, ◌≤◌, ◌⊎◌, List, [], ◌∷◌, Some, length, min, max, sym, ap, ◌∙◌, inl, inr, ⊎_elim, arith}
use Rattle.std.specs.Prelude.{Contains, sum_by, slice_get}
use Rattle.std.proofs.lemmas.List.Sums.{sum_by-cons}
use Rattle.std.proofs.lemmas.Option.{none-some, same_Some, slice_get_cases}
use Rattle.tdm_problem.specs.declared.wire.Wire.{Wire}
use Rattle.tdm_problem.specs.Board.{Board}
use Rattle.tdm_problem.specs.Walk.{Links, IsWalk}
use Rattle.tdm_problem.proofs.Walks.{Links-sym, Links-ends}

-- a value without the levels from low to high: one between them becomes low, one above goes down
without_levels : (low high value : ℕ) → ℕ
without_levels low high value = min value low + (value - high)

-- without some levels nothing rises by more than before
rises : (low high k x y : ℕ) → low ≤ high → y ≤ x + k → without_levels low high y ≤ without_levels low high x
    + k
unfolding without_levels
rises low high k x y order before = omega arith

-- what was between the levels is level
level-between : (low high x y : ℕ) → low ≤ x → x ≤ high → low ≤ y → y ≤ high
    → without_levels low high y ≤ without_levels low high x
unfolding without_levels
level-between low high x y above_x below_x above_y below_y = omega arith

-- a rise is by no more than it is without the levels, and how many these are
rises-back : (low high x y k length : ℕ) → low ≤ high → high ≤ low + length
    → without_levels low high y ≤ without_levels low high x + k → y ≤ x + (length + k)
unfolding without_levels
rises-back low high x y k length order few before = omega arith

-- an element of a list is its first, or one of the others
first-or-other : (d : ℕ) (listed : List ℕ) (e : ℕ) → Contains (d ∷ listed) e → (d ≡ e) ⊎ Contains listed e
first-or-other d listed e (zero, inside, is) = inl is
first-or-other d listed e (suc k, inside, is) = inr (k, omega arith, is)

module _ (board : Board) (wires : ℕ → Type 0) (wire_length : ℕ → ℕ) where
  -- a walk along which nothing rises
  level-walk : (value : ℕ → ℕ) → ((e a b : ℕ) → wires e → Links board e a b → value b ≤ value a) →
      (a : ℕ) (es : List ℕ) (b : ℕ) → IsWalk board wires a es b → value b ≤ value a
  level-walk value level a [] b walk = omega (arith, ap value walk)
  level-walk value level a (e ∷ es) b walk =
      omega (arith, level e a walk.1.0 walk.0 walk.1.1, level-walk value level walk.1.0 es b walk.1.2)

  -- a wire is level without the levels between its ends
  level-wire : (value : ℕ → ℕ) (d : ℕ) (wire : Wire) (e a b : ℕ) → slice_get board.wires d ≡ Some wire → d ≡ e
      → Links board e a b →
      without_levels (min (value wire.a) (value wire.b)) (max (value wire.a) (value wire.b)) (value b)
      ≤ without_levels (min (value wire.a) (value wire.b)) (max (value wire.a) (value wire.b)) (value a)
  level-wire value d wire e a b is here links =
      let first : wire ≡ links.wire = same_Some wire links.wire (sym is ∙ ap (slice_get board.wires) here
      ∙ links.is) in
      let at_a : value wire.a ≡ value links.wire.a = ap (λ (w : Wire). value w.a) first in
      let at_b : value wire.b ≡ value links.wire.b = ap (λ (w : Wire). value w.b) first in
      ⊎_elim
      (λ forth.
      let to_a : value links.wire.a ≡ value a = ap value forth.0 in
      let to_b : value links.wire.b ≡ value b = ap value forth.1 in
      level-between (min (value wire.a) (value wire.b)) (max (value wire.a) (value wire.b)) (value a)
      (value b)
      (omega arith) (omega arith) (omega arith) (omega arith))
      (λ back.
      let to_b : value links.wire.a ≡ value b = ap value back.0 in
      let to_a : value links.wire.b ≡ value a = ap value back.1 in
      level-between (min (value wire.a) (value wire.b)) (max (value wire.a) (value wire.b)) (value a)
      (value b)
      (omega arith) (omega arith) (omega arith) (omega arith))
      links.ends

  -- along a walk whose wires rise only where they are listed, a gentle potential rises by at most the lengths
  -- of these
  pub rise_of-walk : (listed : List ℕ) (value : ℕ → ℕ) →
      ((e a b : ℕ) → Links board e a b → value b ≤ value a + wire_length e) →
      ((e a b : ℕ) → wires e → Links board e a b → Contains listed e ⊎ (value b ≤ value a)) →
      (a : ℕ) (es : List ℕ) (b : ℕ) → IsWalk board wires a es b
      → value b ≤ value a + sum_by wire_length listed
  rise_of-walk [] value gentle rising a es b walk =
      let level : value b ≤ value a = level-walk value
      (λ e x y there links. ⊎_elim (λ (nowhere : Contains [] e). absurd (omega (arith, nowhere.1)))
      (λ (level : value y ≤ value x). level) (rising e x y there links))
      a es b walk in
      omega (arith, level)
  rise_of-walk (d ∷ listed) value gentle rising a es b walk =
      elim (slice_get_cases board.wires d).1 [
        | inl (wire, inside, is, at) ↦
            let low : ℕ = min (value wire.a) (value wire.b) in
            let high : ℕ = max (value wire.a) (value wire.b) in
            let forth : value wire.b ≤ value wire.a + wire_length d =
            gentle d wire.a wire.b (Links-ends board d wire is) in
            let back : value wire.a ≤ value wire.b + wire_length d =
            gentle d wire.b wire.a (Links-sym board d wire.a wire.b (Links-ends board d wire is)) in
            let order : low ≤ high = omega arith in
            let few : high ≤ low + wire_length d = omega arith in
            let rest : without_levels low high (value b) ≤ without_levels low high (value a)
            + sum_by wire_length listed =
            rise_of-walk listed (λ x. without_levels low high (value x))
            (λ e x y links. rises low high (wire_length e) (value x) (value y) order (gentle e x y links))
            (λ e x y there links.
            ⊎_elim
            (λ (either : Contains (d ∷ listed) e).
            ⊎_elim
            (λ (here : d ≡ e). inr (level-wire value d wire e x y is here links))
            (λ (other : Contains listed e). inl other)
            (first-or-other d listed e either))
            (λ (level : value y ≤ value x). inr
            (omega (arith, rises low high 0 (value x) (value y) order (omega (arith, level)))))
            (rising e x y there links))
            a es b walk in
            omega (
              arith,
              rises-back low high (value a) (value b) (sum_by wire_length listed)
                  (wire_length d) order few rest,
              sum_by-cons wire_length d listed,
            )
        | inr (past, none) ↦
            let rest : value b ≤ value a + sum_by wire_length listed = rise_of-walk listed value gentle
            (λ e x y there links.
            ⊎_elim
            (λ (either : Contains (d ∷ listed) e).
            ⊎_elim
            (λ (here : d ≡ e). absurd (none-some links.wire (sym none ∙ ap (slice_get board.wires) here
            ∙ links.is)))
            (λ (other : Contains listed e). inl other)
            (first-or-other d listed e either))
            (λ (level : value y ≤ value x). inr level)
            (rising e x y there links))
            a es b walk in
            omega (arith, rest, sum_by-cons wire_length d listed)
      ]
