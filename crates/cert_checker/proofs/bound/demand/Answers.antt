use Rattle.std.proofs.Common.{◌≡◌, ◌≤◌, ◌*◌, ◌^◌, List, ℕ, length, map, get_or, sym, ap, ◌∙◌, subst, arith}
use Rattle.std.specs.Prelude.{All, sum}
use Rattle.std.proofs.lemmas.List.{length-map}
use Rattle.tdm_problem.specs.Roots.{root_of}
use Rattle.tdm_problem.specs.Sums.{sum_below}
use Rattle.bound_cert.specs.declared.certificate.CertKind.{CertKind}
use Rattle.bound_cert.specs.Bound.{root_sum, demand_by}
use Rattle.cert_checker.specs.Spreads.{most_spread}
use Rattle.cert_checker.proofs.RootSums.{sum_of_roots-le, root_sum_is, written_back}
use Rattle.cert_checker.proofs.bound.demand.Goals as goal

pub weighted_sum-total-requires-clause-whole : goal.weighted_sum-total-requires-clause-whole
weighted_sum-total-requires-clause-whole c =
    let roots : c.deref.result.now ≡ map root_of c.args.weights.items =
    written_back c.args.weights.items c.deref_mut.result.now c.take_roots.new.numbers c.deref.result.now
    c.args.weights.len c.deref_mut.ensures.value c.take_roots.ensures c.deref_mut.ensures.len
    c.deref.ensures.value in
    omega (
      arith,
      ap length roots,
      length-map c.args.weights.items root_of,
      c.requires.weights.whole,
      c.requires.spreads.whole,
    )

pub weighted_sum-total-requires-clause-small : goal.weighted_sum-total-requires-clause-small
weighted_sum-total-requires-clause-small c =
    let roots : c.deref.result.now ≡ map root_of c.args.weights.items =
    written_back c.args.weights.items c.deref_mut.result.now c.take_roots.new.numbers c.deref.result.now
    c.args.weights.len c.deref_mut.ensures.value c.take_roots.ensures c.deref_mut.ensures.len
    c.deref.ensures.value in
    let few : sum c.deref.result.now ≤ 2 ^ 52 =
    omega (
      arith,
      ap sum roots,
      sum_of_roots-le c.args.weights.items c.requires.weights.total,
      c.requires.weights.whole,
      c.requires.board.net_limit,
    ) in (
      2 ^ 64,
      subst (λ (kind : CertKind). All (λ s. s ≤ most_spread kind) c.args.spreads.now)
          (sym c.in-Share.ensures.value) c.requires.spreads.small,
      omega (arith, few),
    )

pub returns-in-Share-clause-value : goal.returns-in-Share-clause-value
returns-in-Share-clause-value c =
    let board = c.args.problem.now in
    let cert = c.args.cert.now in
    let spreads : List ℕ = c.args.spreads.now in
    let roots : c.deref.result.now ≡ map root_of c.args.weights.items =
    written_back c.args.weights.items c.deref_mut.result.now c.take_roots.new.numbers c.deref.result.now
    c.args.weights.len c.deref_mut.ensures.value c.take_roots.ensures c.deref_mut.ensures.len
    c.deref.ensures.value in
    let many : length c.deref.result.now ≡ length board.nets = ap length roots
    ∙ length-map c.args.weights.items root_of ∙ c.requires.weights.whole in
    let value : c.weighted_sum-total.result ≡ root_sum board cert (λ n. get_or spreads n 0) =
    c.weighted_sum-total.ensures.value
    ∙ ap (λ (k : ℕ). sum_below k (λ n. get_or c.deref.result.now n 0 * get_or spreads n 0)) many
    ∙ ap (λ (factors : List ℕ). sum_below (length board.nets) (λ n. get_or factors n 0 * get_or spreads n 0))
    roots
    ∙ root_sum_is board cert c.args.weights.items spreads c.requires.weights in
    subst (λ (kind : CertKind). c.saturating_sub.result ≡ demand_by kind board cert (λ n. get_or spreads n 0))
    c.in-Share.ensures.value
    (omega (arith, c.saturating_sub.ensures, value, c.sum_of_squares.ensures))

pub weighted_sum-requires-clause-small : goal.weighted_sum-requires-clause-small
weighted_sum-requires-clause-small c =
    let few : sum c.deref-in-Hop.result.now ≤ 2 ^ 64 = omega (
      arith,
      ap sum c.deref-in-Hop.ensures.value,
      c.requires.weights.total,
    ) in (
      2 ^ 60,
      subst (λ (kind : CertKind). All (λ s. s ≤ most_spread kind) c.args.spreads.now)
          (sym c.in-Hop.ensures.value) c.requires.spreads.small,
      omega (arith, few),
    )
