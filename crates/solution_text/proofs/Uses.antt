-- The uses of a net that a text can say.
use Rattle.std.proofs.Common.{ℕ, ◌+◌, ◌<◌, ◌≤◌, ◌^◌, List, [], ◌∷◌, length, All, subst, arith}
use Rattle.std.proofs.lemmas.List.{get_or-map, length-map}
use Rattle.std.proofs.lemmas.List.Elements.{All-head, All-tail, All-weaker}
use Rattle.tdm_problem.specs.declared.solution.WireUse.{WireUse}
use Rattle.tdm_problem.specs.Board.{Board}
use Rattle.tdm_problem.specs.Routing.{Routing, ratios_of}
use Rattle.solution_text.specs.Sayable.{IsSayable}
use Rattle.solution_text.proofs.Sorting.{Rising, rising_from_strictly}

-- uses of wires below a number, wires rising, and ratios of 32 bits
pub record AreSayable (wires : ℕ) (uses : List WireUse) : Type 0 where
  pub there : All (λ u. u.wire < wires) uses
  pub rising : Rising uses
  pub short : All (λ u. u.ratio < 2 ^ 32) uses

-- what holds of each ratio holds of the ratio of each use
All-of_ratios : (P : ℕ → Type 0) (uses : List WireUse) → All P (ratios_of uses) → All (λ u. P u.ratio) uses
All-of_ratios P uses h k d lt =
    let len : k < length (ratios_of uses) = rw (length-map uses (λ (u : WireUse). u.ratio)) lt in
    subst P (get_or-map (λ (u : WireUse). u.ratio) uses k d d.ratio lt) (h k d.ratio len)

pub are_sayable : (board : Board) (routing : Routing) → IsSayable board routing
    → All (AreSayable (length board.wires)) routing
are_sayable board routing is k d lt = record {
  there = is.is_for.there k d lt;
  rising = rising_from_strictly _ (is.rising.rising k d lt);
  short = All-of_ratios (λ r. r < 2 ^ 32) _ (is.short k d lt);
}

-- the wires from a number on are at least as many as the uses of such wires
uses_fit : (wires low : ℕ) (uses : List WireUse) → low ≤ wires → Rising uses → All (λ u. low ≤ u.wire) uses
    → All (λ u. u.wire < wires) uses → length uses + low ≤ wires
uses_fit wires low [] le r from there = omega arith
uses_fit wires low (u ∷ uses) le r from there =
    let at_least : low ≤ u.wire = All-head (λ v. low ≤ v.wire) u uses from in
    let below : u.wire < wires = All-head (λ v. v.wire < wires) u uses there in
    let later : length uses + (u.wire + 1) ≤ wires =
    uses_fit wires (u.wire + 1) uses (omega arith) r.1 (All-weaker (λ v. u.wire < v.wire) (λ v. u.wire + 1
    ≤ v.wire) (λ v h. omega arith) uses r.0) (All-tail (λ v. v.wire < wires) u uses there) in
    omega arith

-- a net has no more uses than there are wires
pub so_few_uses : (wires : ℕ) (uses : List WireUse) → AreSayable wires uses → length uses ≤ wires
so_few_uses wires uses are =
    let fit : length uses + 0 ≤ wires = uses_fit wires 0 uses (omega arith) are.rising (λ k d lt. omega arith)
    are.there in
    omega arith

-- the first use and the others
pub AreSayable-head : (wires : ℕ) (u : WireUse) (uses : List WireUse) → AreSayable wires (u ∷ uses)
    → (u.wire < wires) × (u.ratio < 2 ^ 32)
AreSayable-head wires u uses are = (
  All-head (λ v. v.wire < wires) u uses are.there,
  All-head (λ v. v.ratio < 2 ^ 32) u uses are.short,
)

pub AreSayable-tail : (wires : ℕ) (u : WireUse) (uses : List WireUse) → AreSayable wires (u ∷ uses)
    → AreSayable wires uses
AreSayable-tail wires u uses are = record {
  there = All-tail (λ v. v.wire < wires) u uses are.there;
  rising = are.rising.1;
  short = All-tail (λ v. v.ratio < 2 ^ 32) u uses are.short;
}
