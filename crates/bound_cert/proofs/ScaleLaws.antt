-- Values times a length.
use Rattle.std.proofs.Common.{◌≡◌, ℕ, ◌*◌, ◌<◌, ◌≤◌, List, [], length, get_or, ap, ◌∙◌, subst, arith}
use Rattle.std.specs.Prelude.{All, slice_index}
use Rattle.std.proofs.Math.Nat.{mul-le-mul_left}
use Rattle.std.proofs.lemmas.List.{get_or_default}
use Rattle.tdm_problem.specs.Board.{Board}
use Rattle.bound_cert.specs.Sources.{sources_of}
use Rattle.bound_cert.specs.Makers.{AreSourcePotentials}
use Rattle.bound_cert.specs.Scaling.{IsScaled, AreScaled}
use Rattle.bound_cert.proofs.Scaled.{potential_scaled}
use Rattle.bound_cert.proofs.InPlace.{IsReplacedBelow}

-- what a value becomes
abbrev pub IsTimes : ℕ → ℕ → ℕ → Type 0
IsTimes unit old new = new ≡ unit * old

pub IsScaled-done : (unit n : ℕ) (old new : List ℕ) → IsReplacedBelow (IsTimes unit) 0 n old new
    → length old ≤ n → IsScaled unit old new
IsScaled-done unit n old new done all =
    record { count = done.count; values = λ f there. done.done f (omega arith) }

pub AreScaled-done : (unit n : ℕ) (old new : List (List ℕ)) → IsReplacedBelow (IsScaled unit) [] n old new
    → length old ≤ n → AreScaled unit old new
AreScaled-done unit n old new done all =
    record { count = done.count; each = λ p there. done.done p (omega arith) }

-- the new values are at most the length times what the old ones are at most
pub AreScaled-small : (unit most : ℕ) (old new : List (List ℕ)) → AreScaled unit old new
    → All (All (λ v. v ≤ most)) old → All (All (λ v. v ≤ unit * most)) new
AreScaled-small unit most old new scaled small p row there f d below =
    let at : p < length old = omega (arith, scaled.count) in
    let each = scaled.each p at in
    let same : get_or new p row ≡ get_or new p [] = get_or_default new p row [] there in
    let long : f < length (get_or new p []) = subst (λ (values : List ℕ). f < length values) same below in
    let long_old : f < length (get_or old p []) = omega (arith, each.count) in
    let value : get_or (get_or new p row) f d ≡ unit * get_or (get_or old p []) f 0 =
    ap (λ (values : List ℕ). get_or values f d) same ∙ get_or_default (get_or new p []) f d 0 long
    ∙ each.values f long_old in
    omega (arith, value, mul-le-mul_left unit (small p [] at f 0 long_old))

-- potentials of hops become potentials at one length for all wires
pub AreSourcePotentials-scaled : (board : Board) (wire_length : ℕ → ℕ) (unit : ℕ) (old new : List (List ℕ))
    → ((e : ℕ) → e < length board.wires → wire_length e ≡ unit) → AreSourcePotentials board (λ _. 1) old
    → AreScaled unit old new → AreSourcePotentials board wire_length new
AreSourcePotentials-scaled board wire_length unit old new even hops scaled = record {
  count = scaled.count ∙ hops.count;
  each = λ p there. (let each = scaled.each p (omega (arith, there, hops.count)) in
      potential_scaled board wire_length unit even (slice_index (sources_of board) p) (get_or old p [])
      (get_or new p []) (hops.each p there) each.count each.values);
}
