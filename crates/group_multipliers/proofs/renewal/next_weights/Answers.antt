use Rattle.std.proofs.Common.{◌≡◌, ◌++◌, ◌≤◌, ◌^◌, length, take, drop, ap, sym, ◌∙◌, subst, arith}
use Rattle.std.specs.Prelude.{All}
use Rattle.std.proofs.lemmas.Grind.{common_steps}
use Rattle.tdm_problem.specs.Value.{largest}
use Rattle.group_multipliers.specs.Renewal.{pulls, renewed}
use Rattle.group_multipliers.proofs.Largest.{le-largest, largest_least}
use Rattle.group_multipliers.proofs.Pulls.{pulls-le, pull_there, weights_positive, renewed_limited}
use Rattle.group_multipliers.proofs.renewal.next_weights.Goals as goal

pub pulls_of-requires-clause-small : goal.pulls_of-requires-clause-small
pulls_of-requires-clause-small c = omega (arith, largest_least c.args.sums.now (2 ^ 87) c.requires.small)

pub put_weights-requires-clause-limited : goal.put_weights-requires-clause-limited
put_weights-requires-clause-limited c =
    let is : c.largest_pull-strongest.result ≡ largest (pulls c.args.weights.now c.args.sums.now) =
    c.largest_pull-strongest.ensures ∙ ap largest (c.deref.ensures.value ∙ c.in_ok-renewal.ensures) in
    omega (
      arith,
      is,
      largest_least (pulls c.args.weights.now c.args.sums.now) (2 ^ 40)
          (pulls-le c.args.weights.now c.args.sums.now (2 ^ 40) c.requires.paired c.requires.some
          c.requires.limited),
    )

pub put_weights-requires-clause-within : goal.put_weights-requires-clause-within
put_weights-requires-clause-within c =
    let same : c.deref.result.now ≡ c.deref_mut.result.now = c.deref.ensures.value
    ∙ sym c.deref_mut.ensures.value in
    let is : c.largest_pull-strongest.result ≡ largest c.deref_mut.result.now =
    c.largest_pull-strongest.ensures ∙ ap largest same in
    λ k d inside. omega (arith, is, le-largest c.deref_mut.result.now k d inside)

pub put_weights-requires-clause-some : goal.put_weights-requires-clause-some
put_weights-requires-clause-some c =
    let is : c.largest_pull-strongest.result ≡ largest (pulls c.args.weights.now c.args.sums.now) =
    c.largest_pull-strongest.ensures ∙ ap largest (c.deref.ensures.value ∙ c.in_ok-renewal.ensures) in
    omega (
      arith,
      is,
      pull_there c.args.weights.now c.args.sums.now c.requires.paired c.requires.some
          c.requires.positive,
    )

pub returns-clause-positive : goal.returns-clause-positive
returns-clause-positive c =
    let is : take c.in_ok-renewal.renewal.len
    (c.put_weights.new.pulls ++ drop (length c.put_weights.new.pulls) c.in_ok-renewal.renewal.items)
    ≡ renewed c.args.weights.now c.args.sums.now = grind (arith, common_steps) in
    subst (λ items. All (λ weight. 1 ≤ weight) items) (sym is)
    (weights_positive (largest (pulls c.args.weights.now c.args.sums.now))
    (pulls c.args.weights.now c.args.sums.now))

pub returns-clause-limited : goal.returns-clause-limited
returns-clause-limited c =
    let is : take c.in_ok-renewal.renewal.len
    (c.put_weights.new.pulls ++ drop (length c.put_weights.new.pulls) c.in_ok-renewal.renewal.items)
    ≡ renewed c.args.weights.now c.args.sums.now = grind (arith, common_steps) in
    subst (λ items. All (λ weight. weight ≤ 2 ^ 40) items) (sym is)
    (renewed_limited c.args.weights.now c.args.sums.now c.requires.paired c.requires.some
    c.requires.positive)
