-- What is spent on each wire, use by use and net by net.
use Rattle.std.proofs.Common.{◌≡◌, ℕ, ◌+◌, ◌<◌, ◌≤◌, ◌^◌, true, false, cond, List, [], ◌∷◌, ◌++◌, length, get_or, take, set, sym, ap, ◌∙◌, inl, inr, arith}
use Rattle.std.specs.Prelude.{All, filter, min, sum_by, ◌==◌}
use Rattle.std.proofs.lemmas.Bool.{eq-eqb, ne_eqb, cases_eq, cond-true, cond-false}
use Rattle.std.proofs.lemmas.List.{map-append, take_more, get_or-set_same, get_or-set_other, get_or_default}
use Rattle.std.proofs.lemmas.List.Elements.{filter_more}
use Rattle.std.proofs.lemmas.List.Sums.{sum_by-cons, sum_by-append}
use Rattle.tdm_problem.specs.declared.solution.WireUse.{WireUse}
use Rattle.tdm_problem.specs.Routing.{Routing, uses_of, ratios_of, ratios_on}
use Rattle.recip_sum.specs.Rounded.{ceiling_of, ceiling_sum}
use Rattle.worst_refine.specs.Spent.{IsSpent}

-- a sum over the ratios on a wire, with one use more
pub sum_more : (part : ℕ → ℕ) (uses : List WireUse) (i : ℕ) (d : WireUse) (e : ℕ) → i < length uses
    → sum_by part (ratios_of (filter (λ u. u.wire == e) (take (i + 1) uses)))
    ≡ sum_by part (ratios_of (filter (λ u. u.wire == e) (take i uses))) + cond ((get_or uses i d).wire == e)
    (part (get_or uses i d).ratio) 0
sum_more part uses i d e inside =
    let u = get_or uses i d in
    let front = filter (λ (x : WireUse). x.wire == e) (take i uses) in
    let last = cond (u.wire == e) (u ∷ []) [] in
    let split = ap (λ us. sum_by part (ratios_of us))
    (filter_more (λ (x : WireUse). x.wire == e) uses i d inside) in
    let lists = ap (sum_by part) (map-append (λ (x : WireUse). x.ratio) front last) in
    let one : sum_by part (ratios_of last) ≡ cond (u.wire == e) (part u.ratio) 0 =
    elim (u.wire == e) as (λ b. sum_by part (ratios_of (cond b (u ∷ []) [])) ≡ cond b (part u.ratio) 0) [
      | true ↦ omega (arith, sum_by-cons part u.ratio [])
      | false ↦ omega arith
    ] in
    omega (arith, split, lists, sum_by-append part (ratios_of front) (ratios_of last), one)

-- and with one net more
sum_on-push : (part : ℕ → ℕ) (some : Routing) (uses : List WireUse) (e : ℕ)
    → sum_by part (ratios_on (some ++ uses ∷ []) e) ≡ sum_by part (ratios_on some e)
    + sum_by part (ratios_of (filter (λ u. u.wire == e) uses))
sum_on-push part [] uses e =
    omega (arith, sum_by-append part (ratios_of (filter (λ (u : WireUse). u.wire == e) uses)) [])
sum_on-push part (first ∷ some) uses e =
    let here = ratios_of (filter (λ (u : WireUse). u.wire == e) first) in
    omega (
      arith,
      sum_by-append part here (ratios_on (some ++ uses ∷ []) e),
      sum_by-append part here (ratios_on some e),
      sum_on-push part some uses e,
    )

pub sum_on-more : (part : ℕ → ℕ) (routing : Routing) (n e : ℕ) → n < length routing
    → sum_by part (ratios_on (take (n + 1) routing) e) ≡ sum_by part (ratios_on (take n routing) e)
    + sum_by part (ratios_of (filter (λ u. u.wire == e) (uses_of routing n)))
sum_on-more part routing n e inside =
    ap (λ r. sum_by part (ratios_on r e)) (take_more routing n [] inside)
    ∙ sum_on-push part (take n routing) (uses_of routing n) e

-- one use more is spent
pub spend_more : (before spent : List ℕ) (uses : List WireUse) (i : ℕ) (d : WireUse) (v : ℕ) → i < length uses
    → length spent ≡ length before → (get_or uses i d).wire < length before
    → v ≡ min (get_or spent (get_or uses i d).wire 0 + ceiling_of (get_or uses i d).ratio) (2 ^ 64 + 1)
    → ((e : ℕ) → e < length before
    → get_or spent e 0 ≡ min
    (get_or before e 0 + ceiling_sum (ratios_of (filter (λ u. u.wire == e) (take i uses)))) (2 ^ 64 + 1))
    → (e : ℕ) → e < length before → get_or (set spent (get_or uses i d).wire v) e 0
    ≡ min (get_or before e 0 + ceiling_sum (ratios_of (filter (λ u. u.wire == e) (take (i + 1) uses))))
    (2 ^ 64 + 1)
spend_more before spent uses i d v inside size there is so_far e e_inside =
    let u = get_or uses i d in
    let more = sum_more ceiling_of uses i d e inside in
    elim (cases_eq u.wire e) [
      | inl here ↦
          let hit : cond {A = ℕ} (u.wire == e) (ceiling_of u.ratio) 0 ≡ ceiling_of u.ratio =
          cond-true (u.wire == e) (ceiling_of u.ratio) 0 (eq-eqb u.wire e here) in
          let at : get_or (set spent u.wire v) e 0 ≡ v = ap (λ (w : ℕ). get_or (set spent w v) e 0) here
          ∙ get_or-set_same spent e v 0 (omega arith) in
          let old : get_or spent u.wire 0 ≡ get_or spent e 0 = ap (λ (w : ℕ). get_or spent w 0) here in
          omega (arith, hit, at, old, more, is, so_far e e_inside)
      | inr other ↦
          let miss : cond {A = ℕ} (u.wire == e) (ceiling_of u.ratio) 0 ≡ 0 =
          cond-false (u.wire == e) (ceiling_of u.ratio) 0 (ne_eqb u.wire e other) in
          let at : get_or (set spent u.wire v) e 0 ≡ get_or spent e 0 =
          get_or-set_other spent u.wire e v 0 (λ same. other (sym same)) in
          omega (arith, miss, at, more, so_far e e_inside)
    ]

-- one net more is spent
pub spent_more : (routing : Routing) (n wires : ℕ) (uses : List WireUse) (spent new : List ℕ)
    → n < length routing → uses_of routing n ≡ uses → length new ≡ length spent
    → ((e : ℕ) → e < length spent
    → get_or new e 0 ≡ min (get_or spent e 0 + ceiling_sum (ratios_of (filter (λ u. u.wire == e) uses)))
    (2 ^ 64 + 1)) → IsSpent (take n routing) wires spent → IsSpent (take (n + 1) routing) wires new
spent_more routing n wires uses spent new inside is size added so_far = record {
  whole = size ∙ so_far.whole;
  each = λ e there.
      let same = ap (λ us. ceiling_sum (ratios_of (filter (λ (u : WireUse). u.wire == e) us))) is in
      omega (
        arith,
        added e (omega (arith, so_far.whole)),
        so_far.each e there,
        sum_on-more ceiling_of routing n e inside,
        same,
      );
}

-- no sum is above one unit more than a wire
pub spent-le : (routing : Routing) (wires : ℕ) (spent : List ℕ) → IsSpent routing wires spent
    → All (λ sum. sum ≤ 2 ^ 64 + 1) spent
spent-le routing wires spent h = λ e d inside. omega (
  arith,
  h.each e (omega (arith, h.whole)),
  get_or_default spent e d 0 inside,
)
