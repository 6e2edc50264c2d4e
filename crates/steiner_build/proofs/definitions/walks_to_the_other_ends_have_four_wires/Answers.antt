use Rattle.std.proofs.Common.{◌≡◌, ℕ, suc, ◌+◌, ◌<◌, ◌≤◌, [], ◌∷◌, refl, arith, subst, ⊎_elim}
use Rattle.std.specs.Prelude.{Contains, sum_by, nat_eq, if◌then◌else◌}
use Rattle.std.proofs.lemmas.List.Sums.{sum_by-cons}
use Rattle.tdm_problem.specs.Distance.{IsHopCount, length_of}
use Rattle.tdm_problem.specs.Samples.{star}
use Rattle.tdm_problem.proofs.SampleBoards.{end-hops, arms-join}
use Rattle.shortest_forest.proofs.BaselineLaws.{contains-cons}
use Rattle.steiner_build.specs.Building.{IsReachedWithin, IsWithinWalks}
use Rattle.steiner_build.proofs.LengthLaws.{IsWithinDistances-from_walks, IsWithinJoining-from_first}
use Rattle.steiner_build.proofs.definitions.walks_to_the_other_ends_have_four_wires.Goals as goal

source-hops : IsHopCount star 1 1 0
source-hops = record { walk = ([], refl, refl); least = λ es walk. omega arith }

total : (far : ℕ → ℕ) → sum_by far (1 ∷ 2 ∷ 3 ∷ []) ≡ far 1 + far 2 + far 3
total far = omega (arith, sum_by-cons far 1 (2 ∷ 3 ∷ []), sum_by-cons far 2 (3 ∷ []), sum_by-cons far 3 [])

two : (e far : ℕ) → 0 < e → e < 3 → IsReachedWithin star (λ _. 1) 1 (suc e) far → 2 ≤ far
two e far some below reached =
    let least : 2 ≤ length_of (λ _. 1) reached.0 = (end-hops e some below).least reached.0 reached.1 in
    omega (arith, least, reached.2)

within : IsWithinWalks star (λ _. 1) 1 (1 ∷ 2 ∷ 3 ∷ []) 4
within far each =
    let second = two 1 (far 2) (omega arith) (omega arith) (each 2 (1, omega arith, refl)) in
    let third = two 2 (far 3) (omega arith) (omega arith) (each 3 (2, omega arith, refl)) in
    omega (arith, second, third, total far)

abbrev hops : ℕ → ℕ
hops t = if nat_eq t 1 then 0 else 2

hops-right : (t : ℕ) → Contains (1 ∷ 2 ∷ 3 ∷ []) t → IsHopCount star 1 t (hops t)
hops-right t there = ⊎_elim (λ same. subst (λ (n : ℕ). IsHopCount star 1 n (hops n)) same source-hops)
    (λ rest. ⊎_elim (λ same. subst (λ (n : ℕ). IsHopCount star 1 n (hops n)) same
    (end-hops 1 (omega arith) (omega arith)))
    (λ last. ⊎_elim (λ same. subst (λ (n : ℕ). IsHopCount star 1 n (hops n)) same
    (end-hops 2 (omega arith) (omega arith)))
    (λ none. absurd (omega (arith, none.1))) (contains-cons 3 t [] last))
    (contains-cons 2 t (3 ∷ []) rest)) (contains-cons 1 t (2 ∷ 3 ∷ []) there)

pub returns-clause-walks : goal.returns-clause-walks
returns-clause-walks c = within

pub returns-clause-more : goal.returns-clause-more
returns-clause-more c h =
    let most : 5 ≤ sum_by hops (1 ∷ 2 ∷ 3 ∷ []) = h hops (λ t there. let d = hops-right t there in
    (d.walk.0, d.walk.1, omega (arith, d.walk.2))) in
    let sum : sum_by hops (1 ∷ 2 ∷ 3 ∷ []) ≡ 4 = total hops in
    omega (arith, most, sum)

pub returns-clause-distances : goal.returns-clause-distances
returns-clause-distances c = IsWithinDistances-from_walks star (λ _. 1) 1 (1 ∷ 2 ∷ 3 ∷ []) 4 within

pub returns-clause-farther : goal.returns-clause-farther
returns-clause-farther c h =
    let most : 5 ≤ sum_by hops (1 ∷ 2 ∷ 3 ∷ []) = h hops hops-right in
    let sum : sum_by hops (1 ∷ 2 ∷ 3 ∷ []) ≡ 4 = total hops in
    omega (arith, most, sum)

pub returns-clause-joining : goal.returns-clause-joining
returns-clause-joining c = IsWithinJoining-from_first star (λ _. 1) 1 2 2
    (λ far each.
    let second = two 1 (far 2) (omega arith) (omega arith) (each 2 (1, omega arith, refl)) in
    omega (arith, second, sum_by-cons far 1 (2 ∷ []), sum_by-cons far 2 []))

pub returns-clause-longer : goal.returns-clause-longer
returns-clause-longer c h =
    let short : 3 ≤ length_of (λ _. 1) (0 ∷ 1 ∷ []) =
    h (0 ∷ 1 ∷ []) (arms-join (λ e. Contains (0 ∷ 1 ∷ []) e) (1 ∷ 2 ∷ []) arm) in
    omega (arith, short)
  where
    arm : (b : ℕ) → Contains (1 ∷ 2 ∷ []) b → (e : ℕ) × (e < 3) × (suc e ≡ b) × Contains (0 ∷ 1 ∷ []) e
    arm b there = ⊎_elim (λ same. (0, omega arith, same, (0, omega arith, refl)))
        (λ rest. ⊎_elim (λ same. (1, omega arith, same, (1, omega arith, refl)))
        (λ none. absurd (omega (arith, none.1))) (contains-cons 2 b [] rest))
        (contains-cons 1 b (2 ∷ []) there)
