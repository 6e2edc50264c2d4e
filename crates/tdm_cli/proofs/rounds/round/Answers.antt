use Rattle.std.proofs.Common.{◌≡◌, ℕ, ◌^◌, ◌<◌, ◌≤◌, List, length, map, refl, sym, ap, ◌∙◌, subst, arith}
use Rattle.std.specs.Prelude.{All, Option, MatchOption}
use Rattle.std.proofs.lemmas.List.{length-map}
use Rattle.std.proofs.lemmas.List.FromFn.{get_or-map-range_with_len}
use Rattle.tdm_problem.specs.Value.{group_sum, largest, value_of}
use Rattle.group_multipliers.specs.Renewal.{renewed}
use Rattle.even_legalise.specs.Shared.{shared_routing}
use Rattle.bound_cert.specs.Weighted.{IsShareBound, ListsLengths}
use Rattle.tdm_cli.specs.declared.candidates.Candidate.{Candidate}
use Rattle.tdm_cli.specs.declared.certify.Certified.{Certified}
use Rattle.tdm_cli.specs.Candidates.{IsOfRound}
use Rattle.tdm_cli.specs.Rounds.{AreRoots, Round, round_length}
use Rattle.tdm_cli.proofs.NumberLaws.{range-below}
use Rattle.tdm_cli.proofs.RunningLaws.{Reroutes-made, renewed-count}
use Rattle.tdm_cli.proofs.SharedValues.{shared-sums_small}
use Rattle.tdm_cli.proofs.rounds.round.Goals as goal

pub reroute_with-requires-clause-there : goal.reroute_with-requires-clause-there
reroute_with-requires-clause-there c =
    subst (λ (ns : List ℕ). All (λ n. n < length c.args.problem.now.nets) ns) (sym c.requires.nets)
    (range-below (length c.args.problem.now.nets))

pub returns-then-not-are_few-clause-ended : goal.returns-then-not-are_few-clause-ended
returns-then-not-are_few-clause-ended c _ _ = record {
  round = record {
    weights = c.args.running.now.weights.items;
    numbers = c.in_ok-numbers.numbers.items;
    trees = c.reroute_with.new.trees;
  };
  weights_are = refl;
  reroutes = Reroutes-made c.args.problem.now c.args.running.now.weights.items c.deref.result.now
      c.in_ok-numbers.numbers.items c.deref-2.result.now c.args.nets.now c.args.running.now.trees
      c.reroute_with.new.trees
      c.deref.ensures.value c.deref-2.ensures.value c.requires.nets
      (c.in_ok-numbers.ensures.roots c.args.problem.now c.requires.incidence)
      c.in_ok-_rerouted.ensures.passes;
  over = c.are_few.ensures.no c.if-not-are_few.true;
}

pub next_weights-requires-clause-small : goal.next_weights-requires-clause-small
next_weights-requires-clause-small c =
    let roots = c.in_ok-numbers.ensures.roots c.args.problem.now c.requires.incidence in
    let paired : length c.deref-3.result.now ≡ length c.reroute_with.new.trees =
    ap length c.deref-3.ensures.value ∙ roots.count
    ∙ sym c.in_ok-_rerouted.ensures.rerouted.minimal.for_board.nets in
    subst (λ (xs : List ℕ). All (λ total. total ≤ 2 ^ 87) xs)
    (sym (c.deref-7.ensures.value ∙ c.in_ok-sums.ensures))
    (shared-sums_small c.args.problem.now c.reroute_with.new.trees c.deref-3.result.now
    c.requires.best.may_be_written.sayable.limits c.are_few.ensures.rising paired
    (c.are_few.ensures.yes c.if-not-are_few.false))

pub next_weights-requires-clause-some : goal.next_weights-requires-clause-some
next_weights-requires-clause-some c =
    let board = c.args.problem.now in
    let trees : List (List ℕ) = c.reroute_with.new.trees in
    let worth : ℕ = value_of board (shared_routing board trees c.deref-3.result.now) in
    let most : largest c.deref-7.result.now ≡ worth =
    ap largest (c.deref-7.ensures.value ∙ c.in_ok-sums.ensures) in
    let numbers : c.deref-4.result.now ≡ c.deref-3.result.now = c.deref-4.ensures.value
    ∙ sym c.deref-3.ensures.value in
    omega (
      arith,
      most,
      c.if-running-eq0.false,
      subst (λ (ns : List ℕ). c.keep_solution.new.best.value ≤ value_of board (shared_routing board trees ns))
          numbers c.in_ok-keep_solution.ensures.value,
    )

pub keep_certificate-requires-clause-roots : goal.keep_certificate-requires-clause-roots
keep_certificate-requires-clause-roots c =
    let board = c.args.problem.now in
    let numbers : List ℕ = c.in_ok-numbers.numbers.items in
    let weights : List ℕ = c.in_ok-candidate.candidate.weights.items in
    let same : weights ≡ c.deref.result.now = c.in_ok-candidate.ensures.of_round.weights
    ∙ c.deref-8.ensures.value ∙ sym c.deref.ensures.value in
    subst (λ (ns : List ℕ). AreRoots board weights ns) (sym c.deref-10.ensures.value)
    (subst (λ (ws : List ℕ). AreRoots board ws numbers) (sym same)
    (c.in_ok-numbers.ensures.roots board c.requires.incidence))

pub returns-clause-weights : goal.returns-clause-weights
returns-clause-weights c =
    let sums : length c.deref-7.result.now ≡ length c.deref-6.result.now =
    ap length (c.deref-7.ensures.value ∙ c.in_ok-sums.ensures)
    ∙ length-map c.args.problem.now.groups
    (group_sum (shared_routing c.args.problem.now c.reroute_with.new.trees c.deref-3.result.now))
    ∙ sym (ap length c.deref-6.ensures.value ∙ c.requires.weights.count) in
    record {
      count = ap length c.in_ok-next.ensures.value
          ∙ renewed-count c.deref-6.result.now c.deref-7.result.now sums ∙ ap length c.deref-6.ensures.value
          ∙ c.requires.weights.count;
      positive = c.in_ok-next.ensures.positive;
      limited = c.in_ok-next.ensures.limited;
    }

pub returns-clause-went : goal.returns-clause-went
returns-clause-went c _ =
    let board = c.args.problem.now in
    let weights : List ℕ = c.args.running.now.weights.items in
    let numbers : List ℕ = c.in_ok-numbers.numbers.items in
    let trees : List (List ℕ) = c.reroute_with.new.trees in
    let round : Round = record { weights = weights; numbers = numbers; trees = trees } in
    let of_round : IsOfRound board round c.in_ok-candidate.candidate =
    subst (λ (ws : List ℕ). IsOfRound board (record { weights = ws; numbers = numbers; trees = trees })
    c.in_ok-candidate.candidate) c.deref-8.ensures.value
    (subst (λ (ns : List ℕ). IsOfRound board (record {
      weights = c.deref-8.result.now;
      numbers = ns;
      trees = trees;
    }) c.in_ok-candidate.candidate) c.deref-9.ensures.value
    c.in_ok-candidate.ensures.of_round) in
    let lists : ListsLengths board c.in_ok-candidate.candidate.lengths.items (round_length board round) =
    subst (λ (ls : List ℕ). ListsLengths board ls (round_length board round)) (sym of_round.lengths)
    (λ e there. get_or-map-range_with_len (round_length board round) 0 (length board.wires) e e 0 there
    (omega arith)) in
    let sums_of : List ℕ → List ℕ = λ ns. map (group_sum (shared_routing board trees ns)) board.groups in
    record {
      numbers = numbers;
      reroutes = Reroutes-made board weights c.deref.result.now numbers c.deref-2.result.now c.args.nets.now
          c.args.running.now.trees trees
          c.deref.ensures.value c.deref-2.ensures.value c.requires.nets
          (c.in_ok-numbers.ensures.roots board c.requires.incidence) c.in_ok-_rerouted.ensures.passes;
      fits = c.are_few.ensures.yes c.if-not-are_few.false;
      next_is = c.in_ok-next.ensures.value
          ∙ ap (λ (ws : List ℕ). renewed ws c.deref-7.result.now) c.deref-6.ensures.value
          ∙ ap (renewed weights) (c.deref-7.ensures.value ∙ c.in_ok-sums.ensures
          ∙ ap sums_of c.deref-3.ensures.value);
      met = record {
        no_worse = λ fits.
            subst (λ (ns : List ℕ). c.keep_traded.new.best.value
            ≤ value_of board (shared_routing board trees ns)) c.deref-4.ensures.value
            (omega (
              arith,
              c.in_ok-keep_traded.ensures.lower,
              c.keep_certificate.ensures.value,
              c.in_ok-keep_solution.ensures.value,
            ));
        no_weaker = λ fits other is.
            subst (λ (kept : Certified). other ≤ kept.bound) (sym c.keep_traded.ensures.certified)
            (c.in_ok-keep_certificate.ensures.bound (round_length board round) lists other
            (subst (λ (ws : List ℕ). IsShareBound board ws (round_length board round) other)
            (sym of_round.weights) is));
      };
      last_is = subst (λ (last : Option Candidate). MatchOption last ⊥ (IsOfRound board round))
          (sym c.add.ensures.last) of_round;
    }
