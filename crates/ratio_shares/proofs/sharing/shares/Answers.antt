use Rattle.std.proofs.Common.{◌≡◌, ℕ, [], ◌∷◌, ◌++◌, map, get_or, take, ap, sym, ◌∙◌, arith}
use Rattle.std.specs.Prelude.{max, sum_by}
use Rattle.std.specs.Int.{div_ceil}
use Rattle.std.proofs.lemmas.List.{map_more}
use Rattle.ratio_shares.specs.Shares.{least_claim, claim_in, claims_of, share_for, share_in}
use Rattle.ratio_shares.proofs.Claims.{least_claim-le}
use Rattle.ratio_shares.proofs.sharing.shares.Goals as goal

pub sum_of_claims-claims-requires-clause-least_small : goal.sum_of_claims-claims-requires-clause-least_small
sum_of_claims-claims-requires-clause-least_small c =
    omega (
      arith,
      c.least_claim_for-least.ensures
          ∙ ap (λ (m : ℕ). max (div_ceil m 1024) 1) c.largest_number.ensures,
      least_claim-le c.args.s.now c.requires.small,
    )

pub share-requires-clause-small : goal.share-requires-clause-small
share-requires-clause-small c =
    omega (
      arith,
      c.least_claim_for-least.ensures ∙ ap (λ (m : ℕ). max (div_ceil m 1024) 1) c.largest_number.ensures,
      least_claim-le c.args.s.now c.requires.small,
      c.requires.small c.loop-number.number-index 0 (omega arith),
    )

pub loop-number-preserved : goal.loop-number-preserved
loop-number-preserved c =
    let number : ℕ = get_or c.args.s.now c.loop-number.number-index 0 in
    let least : c.least_claim_for-least.result ≡ least_claim c.args.s.now = c.least_claim_for-least.ensures
    ∙ ap (λ (m : ℕ). max (div_ceil m 1024) 1) c.largest_number.ensures in
    let claims : c.sum_of_claims-claims.result ≡ claims_of c.args.s.now = c.sum_of_claims-claims.ensures
    ∙ ap (λ (m : ℕ). sum_by (λ x. max x m) c.args.s.now) least in
    let one : c.claim.result ≡ claim_in c.args.s.now (get_or c.args.s.now c.loop-number.number-index 0) =
    c.claim.ensures ∙ ap (λ (m : ℕ). max (get_or c.args.s.now c.loop-number.number-index 0) m) least in
    let share : c.share.result ≡ share_in c.args.s.now c.args.lanes
    (get_or c.args.s.now c.loop-number.number-index 0) =
    c.share.ensures ∙ (ap (λ (m : ℕ). share_for m c.args.lanes c.claim.result) claims
    ∙ ap (λ (m : ℕ). share_for (claims_of c.args.s.now) c.args.lanes m) one) in
    c.in_ok-push.ensures.items
    ∙ (ap (λ items. items ++ c.share.result ∷ []) c.loop-number.invariant
    ∙ (ap (λ (x : ℕ). map (share_in c.args.s.now c.args.lanes) (take c.loop-number.number-index c.args.s.now)
    ++ x ∷ []) share
    ∙ sym (map_more (share_in c.args.s.now c.args.lanes) c.args.s.now c.loop-number.number-index 0
    (omega arith))))
