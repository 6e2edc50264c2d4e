-- Where the ratio of a use stands among the ratios on its wire, and what another ratio in its place changes.
use Rattle.std.proofs.Common.{◌≡◌, ◌≢◌, ℕ, zero, suc, ◌+◌, ◌<◌, true, false, cond, List, [], ◌∷◌, ◌++◌, length, arith, sym, ap, ◌∙◌}
use Rattle.std.specs.Prelude.{filter, slice_index, slice_set, sum_by, ◌==◌}
use Rattle.std.proofs.lemmas.Bool.{eq-eqb, ne_eqb, cond-true, cond-false}
use Rattle.std.proofs.lemmas.List.{append_assoc, length-map, get_or-set_same, get_or-set_other, map-set}
use Rattle.std.proofs.lemmas.List.Sums.{sum_by-cons, sum_by-append}
use Rattle.tdm_problem.specs.declared.solution.WireUse.{WireUse}
use Rattle.tdm_problem.specs.Routing.{Routing, uses_of, wires_of, ratios_of, ratios_on, with_ratio}
use Rattle.tdm_problem.specs.Tight.{wire_at, ratio_at}
use Rattle.tdm_problem.proofs.Routings.{uses_of-with_ratio_other, uses_of-with_ratio_same}

-- a ratio stands in a list, and in another list another one stands in its place
pub record StandsIn (before : List ℕ) (after : ℕ → List ℕ) (ratio : ℕ) : Type 0 where
  pub front : List ℕ
  pub back : List ℕ
  pub is : before ≡ front ++ ratio ∷ back
  pub put : (other : ℕ) → after other ≡ front ++ other ∷ back

-- the same with further ratios before all, and behind all
stands_behind : (before : List ℕ) (after : ℕ → List ℕ) (ratio : ℕ) (xs : List ℕ) → StandsIn before after ratio
    → StandsIn (xs ++ before) (λ r. xs ++ after r) ratio
stands_behind before after ratio xs h = record {
  front = xs ++ h.front;
  back = h.back;
  is = ap (λ l. xs ++ l) h.is ∙ sym (append_assoc xs h.front (ratio ∷ h.back));
  put = λ r. ap (λ l. xs ++ l) (h.put r) ∙ sym (append_assoc xs h.front (r ∷ h.back));
}

stands_before : (before : List ℕ) (after : ℕ → List ℕ) (ratio : ℕ) (xs : List ℕ) → StandsIn before after ratio
    → StandsIn (before ++ xs) (λ r. after r ++ xs) ratio
stands_before before after ratio xs h = record {
  front = h.front;
  back = h.back ++ xs;
  is = ap (λ l. l ++ xs) h.is ∙ append_assoc h.front (ratio ∷ h.back) xs;
  put = λ r. ap (λ l. l ++ xs) (h.put r) ∙ append_assoc h.front (r ∷ h.back) xs;
}

-- the uses with another ratio at a place
abbrev pub put_ratio : List WireUse → ℕ → ℕ → List WireUse
put_ratio uses place ratio = slice_set uses place (record {
  wire = slice_index (wires_of uses) place;
  ratio = ratio;
})

in_uses : (uses : List WireUse) (place e : ℕ) → place < length uses → slice_index (wires_of uses) place ≡ e
    → StandsIn (ratios_of (filter (λ u. u.wire == e) uses))
    (λ r. ratios_of (filter (λ u. u.wire == e) (put_ratio uses place r))) (slice_index (ratios_of uses) place)
in_uses [] place e there is = absurd (omega arith)
in_uses (u ∷ uses) zero e there is =
    let hit : (u.wire == e) ≡ true = eq-eqb u.wire e is in
    let rest = filter (λ (x : WireUse). x.wire == e) uses in
    let new = λ (r : ℕ). (let v : WireUse = record { wire = u.wire; ratio = r } in v) in
    record {
      front = [];
      back = ratios_of rest;
      is = ap ratios_of (cond-true (u.wire == e) (u ∷ rest) rest hit);
      put = λ r. ap ratios_of (cond-true (u.wire == e) (new r ∷ rest) rest hit);
    }
in_uses (u ∷ uses) (suc place) e there is =
    let rest = in_uses uses place e (omega arith) is in
    let left = filter (λ (x : WireUse). x.wire == e) uses in
    let new = λ (r : ℕ). filter (λ (x : WireUse). x.wire == e) (put_ratio uses place r) in
    elim (u.wire == e) as (λ b. StandsIn (ratios_of (cond b (u ∷ left) left))
    (λ r. ratios_of (cond b (u ∷ new r) (new r))) (slice_index (ratios_of uses) place)) [
      | true ↦ stands_behind (ratios_of left) (λ r. ratios_of (new r)) (slice_index (ratios_of uses) place)
          (u.ratio ∷ []) rest
      | false ↦ rest
    ]

not_in_uses : (uses : List WireUse) (place ratio e : ℕ) → place < length uses
    → slice_index (wires_of uses) place ≢ e
    → ratios_of (filter (λ u. u.wire == e) (put_ratio uses place ratio))
    ≡ ratios_of (filter (λ u. u.wire == e) uses)
not_in_uses [] place ratio e there other = absurd (omega arith)
not_in_uses (u ∷ uses) zero ratio e there other =
    let miss : (u.wire == e) ≡ false = ne_eqb u.wire e other in
    let rest = filter (λ (x : WireUse). x.wire == e) uses in
    let new : WireUse = record { wire = u.wire; ratio = ratio } in
    ap ratios_of (cond-false (u.wire == e) (new ∷ rest) rest miss
    ∙ sym (cond-false (u.wire == e) (u ∷ rest) rest miss))
not_in_uses (u ∷ uses) (suc place) ratio e there other =
    let rest = not_in_uses uses place ratio e (omega arith) other in
    let left = filter (λ (x : WireUse). x.wire == e) uses in
    let new = filter (λ (x : WireUse). x.wire == e) (put_ratio uses place ratio) in
    elim (u.wire == e) as (λ b. ratios_of (cond b (u ∷ new) new) ≡ ratios_of (cond b (u ∷ left) left)) [
      | true ↦ ap (λ rs. u.ratio ∷ rs) rest
      | false ↦ rest
    ]

-- the ratio of a use among those on its wire
pub stands_on : (routing : Routing) (n place e : ℕ) → n < length routing → place < length (uses_of routing n)
    → wire_at routing n place ≡ e
    → StandsIn (ratios_on routing e) (λ r. ratios_on (with_ratio routing n place r) e)
    (ratio_at routing n place)
stands_on [] n place e there place_there is = absurd (omega arith)
stands_on (uses ∷ routing) zero place e there place_there is =
    stands_before _ (λ r. ratios_of (filter (λ u. u.wire == e) (put_ratio uses place r)))
    _ (ratios_on routing e) (in_uses uses place e place_there is)
stands_on (uses ∷ routing) (suc n) place e there place_there is =
    stands_behind _ (λ r. ratios_on (with_ratio routing n place r) e)
    _ (ratios_of (filter (λ u. u.wire == e) uses))
    (stands_on routing n place e (omega arith) place_there is)

-- the ratios on the other wires stay
pub ratios_elsewhere : (routing : Routing) (n place ratio e : ℕ) → n < length routing
    → place < length (uses_of routing n) → wire_at routing n place ≢ e
    → ratios_on (with_ratio routing n place ratio) e ≡ ratios_on routing e
ratios_elsewhere [] n place ratio e there place_there other = absurd (omega arith)
ratios_elsewhere (uses ∷ routing) zero place ratio e there place_there other =
    ap (λ rs. rs ++ ratios_on routing e) (not_in_uses uses place ratio e place_there other)
ratios_elsewhere (uses ∷ routing) (suc n) place ratio e there place_there other =
    ap (λ rs. ratios_of (filter (λ u. u.wire == e) uses) ++ rs) (ratios_elsewhere routing n place ratio e
    (omega arith) place_there other)

-- what a sum over the ratios becomes
pub sum_put : (part : ℕ → ℕ) (before : List ℕ) (after : ℕ → List ℕ) (ratio other : ℕ)
    → StandsIn before after ratio → sum_by part (after other) + part ratio ≡ sum_by part before + part other
sum_put part before after ratio other h =
    omega (
      arith,
      ap (sum_by part) h.is,
      ap (sum_by part) (h.put other),
      sum_by-append part h.front (ratio ∷ h.back),
      sum_by-append part h.front (other ∷ h.back),
      sum_by-cons part ratio h.back,
      sum_by-cons part other h.back,
    )

-- the ratios of all uses after one was changed
pub ratio_here : (routing : Routing) (n place ratio : ℕ) → n < length routing
    → place < length (uses_of routing n) → ratio_at (with_ratio routing n place ratio) n place ≡ ratio
ratio_here routing n place ratio there place_there =
    ap (λ us. slice_index (ratios_of us) place) (uses_of-with_ratio_same routing n place ratio there)
    ∙ ap (λ rs. slice_index rs place) (map-set (λ (u : WireUse). u.ratio) (uses_of routing n) place _)
    ∙ get_or-set_same (ratios_of (uses_of routing n)) place ratio 0
    (omega (arith, length-map (uses_of routing n) (λ (u : WireUse). u.ratio)))

pub ratio_beside : (routing : Routing) (n place ratio q : ℕ) → n < length routing → q ≢ place
    → ratio_at (with_ratio routing n place ratio) n q ≡ ratio_at routing n q
ratio_beside routing n place ratio q there other =
    ap (λ us. slice_index (ratios_of us) q) (uses_of-with_ratio_same routing n place ratio there)
    ∙ ap (λ rs. slice_index rs q) (map-set (λ (u : WireUse). u.ratio) (uses_of routing n) place _)
    ∙ get_or-set_other (ratios_of (uses_of routing n)) place q ratio 0 other

pub ratio_of_other_net : (routing : Routing) (n place ratio m q : ℕ) → m ≢ n
    → ratio_at (with_ratio routing n place ratio) m q ≡ ratio_at routing m q
ratio_of_other_net routing n place ratio m q other =
    ap (λ us. slice_index (ratios_of us) q) (uses_of-with_ratio_other routing n place ratio m other)
