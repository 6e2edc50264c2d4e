-- How far a gentle potential is spread over FPGAs that wires join.
use Rattle.std.proofs.Common.{◌≡◌, ℕ, suc, ◌+◌, ◌<◌, ◌≤◌, List, [], ◌∷◌, map, refl, inl, ⊎_elim, arith}
use Rattle.std.specs.Prelude.{Contains, sum_by}
use Rattle.std.proofs.lemmas.Bool.{cases_lt}
use Rattle.std.proofs.lemmas.List.Elements.{Contains-get_or}
use Rattle.std.proofs.lemmas.List.Recursion.{max_least}
use Rattle.tdm_problem.specs.Value.{largest}
use Rattle.bound_cert.specs.Certificate.{value_at}
use Rattle.bound_cert.specs.Bound.{smallest}
use Rattle.bound_cert.specs.Laws.{SpreadLaw}
use Rattle.bound_cert.proofs.Levels.{rise_of-walk}

-- the smallest of values is one of them
smallest-there : (f : ℕ → ℕ) (x : ℕ) (xs : List ℕ) → (y : ℕ) × Contains (x ∷ xs) y
    × (f y ≡ smallest (map f (x ∷ xs)))
smallest-there f x [] = (x, (0, omega arith, refl), refl)
smallest-there f x (y ∷ xs) =
    let rest = smallest-there f y xs in
    ⊎_elim
    (λ (less : f x < smallest (map f (y ∷ xs))). (x, (0, omega arith, refl), omega (arith, less)))
    (λ (most : smallest (map f (y ∷ xs)) ≤ f x). (
      rest.0,
      (suc rest.1.0, omega (arith, rest.1.1), rest.1.2),
      omega (arith, most, rest.2),
    ))
    (cases_lt (f x) (smallest (map f (y ∷ xs))))

-- wires that join FPGAs are together at least as long as a gentle potential is spread over these
pub spread-le_lengths : SpreadLaw
spread-le_lengths board potential wire_length wires [] gentle joins = omega arith
spread-le_lengths board potential wire_length wires (fpga ∷ fpgas) gentle joins =
    let low = smallest-there (value_at potential) fpga fpgas in
    let high : largest (map (value_at potential) (fpga ∷ fpgas)) ≤ value_at potential low.0
    + sum_by wire_length wires =
    max_least (λ xs. largest (map (value_at potential) xs)) (value_at potential) refl (λ x xs. refl)
    (fpga ∷ fpgas) 0 (value_at potential low.0 + sum_by wire_length wires)
    (λ k inside.
    let walk = joins low.0 _ low.1 (Contains-get_or (fpga ∷ fpgas) k 0 inside) in
    rise_of-walk board (Contains wires) wire_length wires (value_at potential) gentle
    (λ e a b listed links. inl listed)
    low.0 walk.0 _ walk.1) in
    omega (arith, high, low.2)
