use Rattle.std.proofs.Common.{◌≡◌, ℕ, zero, suc, ◌-◌, List, [], ◌∷◌, Some, get_or, refl, inl, inr, arith}
use Rattle.std.specs.Prelude.{slice_get}
use Rattle.tdm_problem.specs.Board.{Board}
use Rattle.tdm_problem.specs.Walk.{Links}
use Rattle.tdm_problem.specs.Samples.{wire, ring, star}
use Rattle.shortest_forest.specs.Arcs.{Arcs, both_ways}
use Rattle.bound_cert.specs.Growth.{worn, GrowOver}
use Rattle.bound_cert.specs.Samples.{ring_of_five}
use Rattle.bound_cert.proofs.GrowthByHand.{one-grows, Near}
use Rattle.bound_cert.proofs.definitions.fpgas_grow.Goals as goal

-- all wires are 1 long
abbrev unit : Arcs
unit = both_ways (λ e. 1)

-- a number for each FPGA, and one for all others
abbrev at : List ℕ → (others : ℕ) → ℕ → ℕ
at distances others f = get_or distances f others

forth : (board : Board) (e a b : ℕ) → slice_get board.wires e ≡ Some (wire a b) → Links board e a b
forth board e a b is = record { wire = wire a b; is = is; ends = inl (refl, refl) }

back : (board : Board) (e a b : ℕ) → slice_get board.wires e ≡ Some (wire a b) → Links board e b a
back board e a b is = record { wire = wire a b; is = is; ends = inr (refl, refl) }

-- the triangle: FPGA 1 reaches 0 and 2 over a wire each, and then FPGA 2 reaches 0 over the third
abbrev triangle_left : Arcs
triangle_left = worn unit (λ f. 1 - at (1 ∷ 0 ∷ 1 ∷ []) 1 f)

triangle-2 : GrowOver ring 0 (2 ∷ []) triangle_left 1
triangle-2 = one-grows ring triangle_left (at (1 ∷ 1 ∷ 0 ∷ []) 1) (
  omega arith,
  omega arith,
  (omega arith, omega arith, (omega arith, omega arith, tt)),
)
    2 0 [] 1 0 0 refl (0, omega arith, refl) (2 ∷ [], (0, back ring 2 0 2 refl, (0, (refl, refl), refl)))
    (omega arith, tt) near refl
  where
    near : Near ring triangle_left (at (1 ∷ 1 ∷ 0 ∷ []) 1) 2 1
    near zero = inl (omega arith)
    near (suc zero) = inl (omega arith)
    near (suc (suc zero)) = inr ([], (refl, refl))
    near (suc (suc (suc f))) = inl (omega arith)

triangle-1 : GrowOver ring 0 (1 ∷ 2 ∷ []) unit 2
triangle-1 = one-grows ring unit (at (1 ∷ 0 ∷ 1 ∷ []) 1) (
  omega arith,
  omega arith,
  (omega arith, omega arith, (omega arith, omega arith, tt)),
)
    1 0 (2 ∷ []) 1 1 0 refl (0, omega arith, refl) (
      0 ∷ [],
      (0, back ring 0 0 1 refl, (0, (refl, refl), refl)),
    ) (
      omega arith,
      (omega arith, tt),
    ) near triangle-2
  where
    near : Near ring unit (at (1 ∷ 0 ∷ 1 ∷ []) 1) 1 1
    near zero = inl (omega arith)
    near (suc zero) = inr ([], (refl, refl))
    near (suc (suc zero)) = inl (omega arith)
    near (suc (suc (suc f))) = inl (omega arith)

pub returns-clause-triangle : goal.returns-clause-triangle
returns-clause-triangle c = inl triangle-1

-- the ring: FPGA 2 reaches 3, and then 3 reaches 0 both ways round, over nothing more from 2 to 1
abbrev ring_left : Arcs
ring_left = worn unit (λ f. 1 - at (1 ∷ 1 ∷ 0 ∷ 1 ∷ 1 ∷ []) 1 f)

ring-3 : GrowOver ring_of_five 0 (3 ∷ []) ring_left 2
ring-3 = one-grows ring_of_five ring_left (at (2 ∷ 1 ∷ 1 ∷ 0 ∷ 1 ∷ []) 2) (
  omega arith,
  omega arith,
  (
    omega arith,
    omega arith,
    (omega arith, omega arith, (omega arith, omega arith, (omega arith, omega arith, tt))),
  ),
)
    3 0 [] 2 0 0 refl (0, omega arith, refl) (
      3 ∷ 4 ∷ [],
      (
        4,
        forth ring_of_five 3 3 4 refl,
        (1, (0, forth ring_of_five 4 4 0 refl, (0, (refl, refl), refl)), refl),
      ),
    )
    (omega arith, tt) near refl
  where
    near : Near ring_of_five ring_left (at (2 ∷ 1 ∷ 1 ∷ 0 ∷ 1 ∷ []) 2) 3 2
    near zero = inl (omega arith)
    near (suc zero) = inr (
      2 ∷ 1 ∷ [],
      (
        2,
        back ring_of_five 2 2 3 refl,
        (
          0,
          (1, back ring_of_five 1 1 2 refl, (0, (refl, refl), refl)),
          refl,
        ),
      ),
    )
    near (suc (suc zero)) = inr (2 ∷ [], (2, back ring_of_five 2 2 3 refl, (0, (refl, refl), refl)))
    near (suc (suc (suc zero))) = inr ([], (refl, refl))
    near (suc (suc (suc (suc zero)))) =
        inr (3 ∷ [], (4, forth ring_of_five 3 3 4 refl, (0, (refl, refl), refl)))
    near (suc (suc (suc (suc (suc f))))) = inl (omega arith)

ring-2 : GrowOver ring_of_five 0 (2 ∷ 3 ∷ []) unit 3
ring-2 = one-grows ring_of_five unit (at (1 ∷ 1 ∷ 0 ∷ 1 ∷ 1 ∷ []) 1) (
  omega arith,
  omega arith,
  (
    omega arith,
    omega arith,
    (omega arith, omega arith, (omega arith, omega arith, (omega arith, omega arith, tt))),
  ),
)
    2 0 (3 ∷ []) 1 2 3 refl (1, omega arith, refl) (
      2 ∷ [],
      (3, forth ring_of_five 2 2 3 refl, (0, (refl, refl), refl)),
    )
    (omega arith, (omega arith, tt)) near ring-3
  where
    near : Near ring_of_five unit (at (1 ∷ 1 ∷ 0 ∷ 1 ∷ 1 ∷ []) 1) 2 1
    near zero = inl (omega arith)
    near (suc zero) = inl (omega arith)
    near (suc (suc zero)) = inr ([], (refl, refl))
    near (suc (suc (suc zero))) = inl (omega arith)
    near (suc (suc (suc (suc zero)))) = inl (omega arith)
    near (suc (suc (suc (suc (suc f))))) = inl (omega arith)

pub returns-clause-ring_of_five : goal.returns-clause-ring_of_five
returns-clause-ring_of_five c = inl ring-2

-- the star: FPGA 2 reaches 1, and the heights fall from 0 to 3 too; then they fall from 3 to 0
abbrev star_left : Arcs
star_left = worn unit (λ f. 2 - at (1 ∷ 2 ∷ 0 ∷ 2 ∷ []) 2 f)

star-3 : GrowOver star 1 (3 ∷ []) star_left 1
star-3 = one-grows star star_left (at (1 ∷ 1 ∷ 2 ∷ 0 ∷ []) 1) (
  omega arith,
  omega arith,
  (omega arith, omega arith, (omega arith, omega arith, tt)),
)
    3 1 [] 1 0 1 refl (0, omega arith, refl) (
      2 ∷ 0 ∷ [],
      (0, back star 2 0 3 refl, (0, (1, forth star 0 0 1 refl, (0, (refl, refl), refl)), refl)),
    )
    (omega arith, tt) near refl
  where
    near : Near star star_left (at (1 ∷ 1 ∷ 2 ∷ 0 ∷ []) 1) 3 1
    near zero = inl (omega arith)
    near (suc zero) = inl (omega arith)
    near (suc (suc zero)) = inl (omega arith)
    near (suc (suc (suc zero))) = inr ([], (refl, refl))
    near (suc (suc (suc (suc f)))) = inl (omega arith)

star-2 : GrowOver star 1 (2 ∷ 3 ∷ []) unit 3
star-2 = one-grows star unit (at (1 ∷ 2 ∷ 0 ∷ 2 ∷ []) 2) (
  omega arith,
  omega arith,
  (omega arith, omega arith, (omega arith, omega arith, tt)),
)
    2 1 (3 ∷ []) 2 1 1 refl (0, omega arith, refl) (
      1 ∷ 0 ∷ [],
      (0, back star 1 0 2 refl, (1, (1, forth star 0 0 1 refl, (0, (refl, refl), refl)), refl)),
    )
    (omega arith, (omega arith, tt)) near star-3
  where
    near : Near star unit (at (1 ∷ 2 ∷ 0 ∷ 2 ∷ []) 2) 2 2
    near zero = inr (1 ∷ [], (0, back star 1 0 2 refl, (0, (refl, refl), refl)))
    near (suc zero) = inl (omega arith)
    near (suc (suc zero)) = inr ([], (refl, refl))
    near (suc (suc (suc zero))) = inl (omega arith)
    near (suc (suc (suc (suc f)))) = inl (omega arith)

pub returns-clause-both_ways : goal.returns-clause-both_ways
returns-clause-both_ways c = inl star-2
