-- where a sorted list is cut
use Rattle.std.proofs.Common.{◌≡◌, ℕ, ◌+◌, ◌-◌, ◌<◌, ◌≤◌, List, length, get_or, take, drop, inl, inr, arith}
use Rattle.std.specs.Prelude.{filter, ◌==◌}
use Rattle.std.specs.List.{AllWithin}
use Rattle.std.proofs.lemmas.Bool.{cases_lt, eq-eqb, ne_eqb}
use Rattle.solution_eval.specs.declared.flood.Step.{Step}
use Rattle.solution_eval.proofs.Filtered.{filter_middle}

-- a cut at a lower limit comes first
pub cuts_rise : (steps : List Step) (i j a b : ℕ) → a ≤ b → i ≤ length steps
    → AllWithin (λ (s : Step). s.from < a) steps 0 i
    → AllWithin (λ (s : Step). b ≤ s.from) steps j (length steps) → i ≤ j
cuts_rise steps i j a b up inside below above = elim (cases_lt j i) [
  | inl crossed ↦
      let none : Step = record { from = 0; to = 0 } in
      let low : (get_or steps j none).from < a = below j none (omega arith) crossed in
      let high : b ≤ (get_or steps j none).from = above j none (omega arith) (omega arith) in
      omega arith
  | inr rising ↦ rising
]

-- between the cuts at a and one above it stand the steps from a
pub steps_between_cuts : (steps : List Step) (i j a first after : ℕ) → first ≡ a → after ≡ a + 1 → i ≤ j
    → j ≤ length steps → AllWithin (λ (s : Step). s.from < first) steps 0 i
    → AllWithin (λ (s : Step). first ≤ s.from) steps i (length steps)
    → AllWithin (λ (s : Step). s.from < after) steps 0 j
    → AllWithin (λ (s : Step). after ≤ s.from) steps j (length steps)
    → take (j - i) (drop i steps) ≡ filter (λ s. s.from == a) steps
steps_between_cuts steps i j a first after first_is after_is up inside below_i above_i below_j above_j =
    filter_middle (λ s. s.from == a) steps i j up inside
    (λ k d low high. ne_eqb (get_or steps k d).from a (λ same. let h : (get_or steps k d).from < first =
    below_i k d low high in omega arith))
    (λ k d low high. eq-eqb (get_or steps k d).from a (let h : (get_or steps k d).from < after =
    below_j k d (omega arith) high in let g : first ≤ (get_or steps k d).from =
    above_i k d low (omega arith) in omega arith))
    (λ k d low high. ne_eqb (get_or steps k d).from a (λ same. let h : after ≤ (get_or steps k d).from =
    above_j k d low high in omega arith))
