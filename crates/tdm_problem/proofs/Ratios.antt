use Rattle.std.proofs.Common.{◌≡◌, ◌≢◌, ℕ, ◌<◌, Bool, cond, List, [], ◌∷◌, ◌++◌, length, refl, sym, ap, ◌∙◌, subst, ⊎_elim, arith, length-append}
use Rattle.std.specs.Prelude.{All, AllPairs, count_by, filter, sum_by, ◌==◌}
use Rattle.std.specs.List.Sorted.{IsStrictlyIncreasing}
use Rattle.std.proofs.lemmas.List.{append_assoc, length-map}
use Rattle.std.proofs.lemmas.List.Elements.{All-append, All-cons, All-head, All-tail, All-map, All-nil, All-weaker}
use Rattle.std.proofs.lemmas.List.Kept.{AllPairs-from_increasing}
use Rattle.std.proofs.lemmas.List.Sums.{sum_by-cons, length-filter}
use Rattle.std.proofs.lemmas.Bool.{cases_Bool, eqb-true}
use Rattle.tdm_problem.specs.declared.solution.WireUse.{WireUse}
use Rattle.tdm_problem.specs.Board.{Board}
use Rattle.tdm_problem.specs.Routing.{Routing, wires_of, ratios_of, ratios_on, IsFor, HasRisingWires}

-- the ratios on a wire, of some nets and then of others
pub ratios_on-append : (first second : Routing) (e : ℕ) → ratios_on (first ++ second) e ≡ ratios_on first e
    ++ ratios_on second e
ratios_on-append [] second e = refl
ratios_on-append (uses ∷ first) second e =
    let here : List ℕ = ratios_of (filter (λ u. u.wire == e) uses) in
    ap (λ (rest : List ℕ). here ++ rest) (ratios_on-append first second e)
    ∙ sym (append_assoc here (ratios_on first e) (ratios_on second e))

-- what holds of the ratio of each use of wire e holds of each use that is kept for it
All-kept : (P : ℕ → Type 0) (e : ℕ) (uses : List WireUse) → All (λ u. u.wire ≡ e → P u.ratio) uses
    → All (λ u. P u.ratio) (filter (λ u. u.wire == e) uses)
All-kept P e [] all = All-nil (λ (u : WireUse). P u.ratio)
All-kept P e (u ∷ uses) all =
    let rest = All-kept P e uses (All-tail (λ v. v.wire ≡ e → P v.ratio) u uses all) in
    ⊎_elim
    (λ same.
    subst (λ (b : Bool). All (λ v. P v.ratio) (cond b (u ∷ filter (λ v. v.wire == e) uses)
    (filter (λ v. v.wire == e) uses))) (sym same)
    (All-cons (λ v. P v.ratio) u (filter (λ v. v.wire == e) uses)
    (All-head (λ v. v.wire ≡ e → P v.ratio) u uses all (eqb-true u.wire e same)) rest))
    (λ differs.
    subst (λ (b : Bool). All (λ v. P v.ratio) (cond b (u ∷ filter (λ v. v.wire == e) uses)
    (filter (λ v. v.wire == e) uses))) (sym differs) rest)
    (cases_Bool (u.wire == e))

-- what holds of the ratio of each use of wire e holds of each ratio on it
pub All-ratios_on : (P : ℕ → Type 0) (e : ℕ) (routing : Routing)
    → All (λ uses. All (λ u. u.wire ≡ e → P u.ratio) uses) routing → All P (ratios_on routing e)
All-ratios_on P e [] all = All-nil P
All-ratios_on P e (uses ∷ routing) all =
    All-append P (ratios_of (filter (λ u. u.wire == e) uses)) (ratios_on routing e)
    (All-map P (λ (u : WireUse). u.ratio) (filter (λ u. u.wire == e) uses)
    (All-kept P e uses (All-head (λ us. All (λ u. u.wire ≡ e → P u.ratio) us) uses routing all)))
    (All-ratios_on P e routing (All-tail (λ us. All (λ u. u.wire ≡ e → P u.ratio) us) uses routing all))

-- there is a ratio on wire e for each use of it
pub length-ratios_on : (routing : Routing) (e : ℕ) → length (ratios_on routing e)
    ≡ sum_by (λ uses. count_by (λ u. u.wire == e) uses) routing
length-ratios_on [] e = refl
length-ratios_on (uses ∷ routing) e =
    let kept : List WireUse = filter (λ u. u.wire == e) uses in
    omega (
      arith,
      length-append (ratios_of kept) (ratios_on routing e),
      length-map kept (λ (u : WireUse). u.ratio),
      length-filter (λ (u : WireUse). u.wire == e) uses,
      length-ratios_on routing e,
      sum_by-cons (λ (us : List WireUse). count_by (λ u. u.wire == e) us) uses routing,
    )

-- rising numbers are distinct
pub distinct-from_rising : (wires : List ℕ) → IsStrictlyIncreasing wires → AllPairs (λ d e. d ≢ e) wires
distinct-from_rising wires rising i j d before there same =
    let below = AllPairs-from_increasing wires rising i j d before there in
    omega arith

-- a routing with rising wires that are there, for as many nets as the board has, is for the board
pub IsFor-from_rising : (board : Board) (routing : Routing) → HasRisingWires routing
    → length routing ≡ length board.nets → All (λ uses. All (λ u. u.wire < length board.wires) uses) routing
    → IsFor board routing
IsFor-from_rising board routing is nets there = record {
  nets = nets;
  there = there;
  distinct = All-weaker (λ (uses : List WireUse). IsStrictlyIncreasing (wires_of uses))
      (λ uses. AllPairs (λ d e. d ≢ e) (wires_of uses))
      (λ uses rising. distinct-from_rising (wires_of uses) rising) routing is.rising;
}
