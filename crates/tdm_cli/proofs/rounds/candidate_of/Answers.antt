use Rattle.std.proofs.Common.{rules, ◌≡◌, ◌^◌, ◌≤◌, ℕ, List, length, sym, ap, ◌∙◌, subst, arith}
use Rattle.std.specs.Prelude.{All}
use Rattle.std.proofs.lemmas.List.{get_or_default}
use Rattle.std.proofs.lemmas.List.FromFn.{fill_by_all}
use Rattle.tdm_cli.specs.Rounds.{Round, round_length}
use Rattle.tdm_cli.proofs.BestLaws.{over_one}
use Rattle.tdm_cli.proofs.LoadLimits.{load-limit}
use Rattle.tdm_cli.proofs.rounds.candidate_of.Goals as goal

pub returns-clause-candidate : goal.returns-clause-candidate
returns-clause-candidate c =
    let weights : c.new.result.weights.items ≡ c.args.weights.now = c.new.ensures.weights
    ∙ c.in_ok-weights.ensures.items_if_clones_equal (search rules) in
    let loads : List ℕ = c.in_ok-lengths.lengths.items in
    record {
      weights_count = ap length weights ∙ c.requires.weights.count;
      weights_small = subst (All (λ w. w ≤ 2 ^ 40)) (sym weights) c.requires.weights.limited;
      lengths_count = ap length c.new.ensures.lengths ∙ c.in_ok-lengths.ensures.loads.count;
      lengths_small = subst (All (λ l. l ≤ 2 ^ 48)) (sym c.new.ensures.lengths)
          (λ e d there.
          omega (
            arith,
            get_or_default loads e d 0 there,
            c.in_ok-lengths.ensures.loads.each e,
            load-limit c.args.problem.now c.loads_of.ensures.board c.args.weights.now c.args.numbers.now
                c.requires.weights.limited c.requires.roots c.args.trees.now c.requires.minimal.for_board.nets
                e,
          ));
    }

pub returns-clause-of_round : goal.returns-clause-of_round
returns-clause-of_round c =
    let board = c.args.problem.now in
    let round : Round = record {
      weights = c.args.weights.now;
      numbers = c.args.numbers.now;
      trees = c.args.trees.now;
    } in
    record {
      weights = c.new.ensures.weights ∙ c.in_ok-weights.ensures.items_if_clones_equal (search rules);
      lengths = c.new.ensures.lengths
          ∙ fill_by_all (round_length board round) c.in_ok-lengths.lengths.items (length board.wires) 0
          c.in_ok-lengths.ensures.loads.count
          (λ e there. c.in_ok-lengths.ensures.loads.each e ∙ over_one _);
    }
