use Rattle.std.proofs.Common.{◌≡◌, ℕ, suc, ◌+◌, ◌<◌, Bool, true, false, cond, List, [], ◌∷◌, ◌++◌, length, map, refl, sym, ap, ◌∙◌, arith, add-zero, zero-add}
use Rattle.std.specs.Prelude.{All, filter, sum_by, ◌==◌}
use Rattle.std.proofs.lemmas.List.{map-append}
use Rattle.std.proofs.lemmas.List.Elements.{All-head, All-tail}
use Rattle.std.proofs.lemmas.List.Sums.{sum_by-cons, sum_by-append}
use Rattle.tdm_problem.specs.declared.solution.WireUse.{WireUse}
use Rattle.tdm_problem.specs.Board.{Board}
use Rattle.tdm_problem.specs.Routing.{Routing, uses_of, ratios_of, ratios_on, IsFor}
use Rattle.tdm_problem.specs.Sums.{sum_below}
use Rattle.tdm_problem.specs.Users.{User, users_in, users_from, users_on}
use Rattle.tdm_problem.proofs.SumsBelow.{sum_below-add, sum_below-agree, sum_below-first, sum_below-none, sum_below-one}

-- the ratios of users that were made of uses
ratios-map : (n : ℕ) (uses : List WireUse)
    → map (λ (x : User). x.ratio) (map (λ (u : WireUse). record { net = n; ratio = u.ratio }) uses)
    ≡ ratios_of uses
ratios-map n [] = refl
ratios-map n (u ∷ uses) = ap (λ (rest : List ℕ). u.ratio ∷ rest) (ratios-map n uses)

-- the ratios of the users of a wire are the ratios on it, whatever number the first net has
pub ratios_on-users_from : (n : ℕ) (routing : Routing) (e : ℕ)
    → ratios_on routing e ≡ map (λ (x : User). x.ratio) (users_from n routing e)
ratios_on-users_from n [] e = refl
ratios_on-users_from n (uses ∷ routing) e =
    let kept : List WireUse = filter (λ u. u.wire == e) uses in
    ap (λ (here : List ℕ). here ++ ratios_on routing e) (sym (ratios-map n kept))
    ∙ ap (λ (rest : List ℕ). map (λ (x : User). x.ratio) (users_in n uses e) ++ rest)
    (ratios_on-users_from (suc n) routing e)
    ∙ sym (map-append (λ (x : User). x.ratio) (users_in n uses e) (users_from (suc n) routing e))

-- the ratios of the users of a wire are the ratios on it
pub ratios_on-users : (routing : Routing) (e : ℕ)
    → ratios_on routing e ≡ map (λ (x : User). x.ratio) (users_on routing e)
ratios_on-users routing e = ratios_on-users_from 0 routing e

-- one use more, of wire e or of another
sum_by-users_cons : (f : User → ℕ) (n : ℕ) (u : WireUse) (uses : List WireUse) (e : ℕ)
    → sum_by f (users_in n (u ∷ uses) e) ≡ cond (u.wire == e) (f (record { net = n; ratio = u.ratio })) 0
    + sum_by f (users_in n uses e)
sum_by-users_cons f n u uses e =
    let user : User = record { net = n; ratio = u.ratio } in
    let chosen : (b : Bool)
    → sum_by f (map (λ (v : WireUse). record { net = n; ratio = v.ratio })
    (cond b (u ∷ filter (λ v. v.wire == e) uses) (filter (λ v. v.wire == e) uses)))
    ≡ cond b (f user) 0 + sum_by f (users_in n uses e) =
    λ b. elim b as (λ b. sum_by f (map (λ (v : WireUse). record { net = n; ratio = v.ratio })
    (cond b (u ∷ filter (λ v. v.wire == e) uses) (filter (λ v. v.wire == e) uses)))
    ≡ cond b (f user) 0 + sum_by f (users_in n uses e)) [
      | true ↦ sum_by-cons f user (users_in n uses e)
      | false ↦ omega arith
    ] in
    chosen (u.wire == e)

module _ (h : ℕ → ℕ → ℕ → ℕ) (wires : ℕ) where
  -- over the uses of net n, or over the wires and the uses of each
  uses-by_wires_in : (n : ℕ) (uses : List WireUse) → All (λ u. u.wire < wires) uses →
      sum_by (λ (u : WireUse). h n u.wire u.ratio) uses
      ≡ sum_below wires (λ e. sum_by (λ (x : User). h x.net e x.ratio) (users_in n uses e))
  uses-by_wires_in n [] there = sym (sum_below-none wires (λ e. 0) (λ i below. refl))
  uses-by_wires_in n (u ∷ uses) there =
      omega (
        arith,
        sum_by-cons (λ (v : WireUse). h n v.wire v.ratio) u uses,
        uses-by_wires_in n uses (All-tail (λ v. v.wire < wires) u uses there),
        sum_below-one wires u.wire (λ e. h n e u.ratio) (All-head (λ v. v.wire < wires) u uses there),
        sum_below-add wires (λ e. cond (u.wire == e) (h n e u.ratio) 0)
            (λ e. sum_by (λ (x : User). h x.net e x.ratio) (users_in n uses e)),
        sum_below-agree wires (λ e. sum_by (λ (x : User). h x.net e x.ratio) (users_in n (u ∷ uses) e))
            (λ e. cond (u.wire == e) (h n e u.ratio) 0 + sum_by (λ (x : User). h x.net e x.ratio)
            (users_in n uses e))
            (λ e below. sum_by-users_cons (λ (x : User). h x.net e x.ratio) n u uses e),
      )

  -- the same for all nets, where the first has number n
  uses-by_wires_from : (n : ℕ) (routing : Routing) → All (λ uses. All (λ u. u.wire < wires) uses) routing →
      sum_below (length routing) (λ i. sum_by (λ (u : WireUse). h (n + i) u.wire u.ratio) (uses_of routing i))
      ≡ sum_below wires (λ e. sum_by (λ (x : User). h x.net e x.ratio) (users_from n routing e))
  uses-by_wires_from n [] there = sym (sum_below-none wires (λ e. 0) (λ i below. refl))
  uses-by_wires_from n (uses ∷ routing) there =
      let here : sum_by (λ (u : WireUse). h (n + 0) u.wire u.ratio) uses
      ≡ sum_by (λ (u : WireUse). h n u.wire u.ratio) uses =
      ap (λ (m : ℕ). sum_by (λ (u : WireUse). h m u.wire u.ratio) uses) (add-zero n) in
      omega (
        arith,
        here,
        sum_below-first (length routing) (λ i. sum_by (λ (u : WireUse). h (n + i) u.wire u.ratio)
            (uses_of (uses ∷ routing) i)),
        sum_below-agree (length routing) (λ i. sum_by (λ (u : WireUse). h (n + suc i) u.wire u.ratio)
            (uses_of routing i))
            (λ i. sum_by (λ (u : WireUse). h (suc n + i) u.wire u.ratio) (uses_of routing i))
            (λ i below. ap (λ (m : ℕ). sum_by (λ (u : WireUse). h m u.wire u.ratio) (uses_of routing i))
            (omega arith)),
        uses-by_wires_in n uses (All-head (λ us. All (λ u. u.wire < wires) us) uses routing there),
        uses-by_wires_from (suc n) routing (All-tail (λ us. All (λ u. u.wire < wires) us) uses routing there),
        sum_below-add wires (λ e. sum_by (λ (x : User). h x.net e x.ratio) (users_in n uses e))
            (λ e. sum_by (λ (x : User). h x.net e x.ratio) (users_from (suc n) routing e)),
        sum_below-agree wires (λ e. sum_by (λ (x : User). h x.net e x.ratio)
            (users_from n (uses ∷ routing) e))
            (λ e. sum_by (λ (x : User). h x.net e x.ratio) (users_in n uses e)
            + sum_by (λ (x : User). h x.net e x.ratio) (users_from (suc n) routing e))
            (λ e below. sum_by-append (λ (x : User). h x.net e x.ratio) (users_in n uses e)
            (users_from (suc n) routing e)),
      )

-- a sum over the nets and the uses of each is a sum over the wires and the users of each
pub uses-by_wires : (h : ℕ → ℕ → ℕ → ℕ) (board : Board) (routing : Routing) → IsFor board routing →
    sum_below (length routing) (λ n. sum_by (λ (u : WireUse). h n u.wire u.ratio) (uses_of routing n))
    ≡ sum_below (length board.wires) (λ e. sum_by (λ (x : User). h x.net e x.ratio) (users_on routing e))
uses-by_wires h board routing is =
    sum_below-agree (length routing) (λ n. sum_by (λ (u : WireUse). h n u.wire u.ratio) (uses_of routing n))
    (λ n. sum_by (λ (u : WireUse). h (0 + n) u.wire u.ratio) (uses_of routing n))
    (λ n below. ap (λ (m : ℕ). sum_by (λ (u : WireUse). h m u.wire u.ratio) (uses_of routing n))
    (sym (zero-add n)))
    ∙ uses-by_wires_from h (length board.wires) 0 routing is.there
