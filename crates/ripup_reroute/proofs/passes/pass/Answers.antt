use Rattle.std.proofs.Common.{◌∙◌, ℕ, ◌≤◌, ◌^◌, List, sym, subst, arith}
use Rattle.std.specs.Prelude.{All, Contains}
use Rattle.std.proofs.lemmas.List.{take_all}
use Rattle.ripup_reroute.proofs.Summing.{loads-small}
use Rattle.ripup_reroute.proofs.PassLaws.{passing-more}
use Rattle.ripup_reroute.proofs.passes.pass.Goals as goal

pub begin_pass-requires-clause-light : goal.begin_pass-requires-clause-light
begin_pass-requires-clause-light c =
    subst (All (λ x. x ≤ 2 ^ 50)) (sym c.deref.ensures.value)
    (loads-small c.args.problem.now c.args.trees.now c.args.numbers.now c.args.loads.now.items
    c.requires.board c.requires.numbers c.requires.minimal.for_board.nets c.requires.loads)

pub loop-n-preserved : goal.loop-n-preserved
loop-n-preserved c = record {
  passing = passing-more c.args.problem.now c.args.numbers.now c.args.picks.now c.loop-n.n-index
      c.args.trees.now c.loop-n.trees c.turn.new.trees c.loop-n.moved c.in_ok-replaced.replaced
      c.loop-n-test.true c.loop-n.invariant.passing
      (record {
        minimal = c.turn.ensures.minimal;
        turn = c.in_ok-replaced.ensures.turn;
        falls = c.in_ok-replaced.ensures.moved;
        stays = c.in_ok-replaced.ensures.kept;
        settled = c.in_ok-replaced.ensures.settled;
      });
  loads = c.in_ok-replaced.ensures.loads;
  builder = c.turn.ensures.builder ∙ c.loop-n.invariant.builder;
  table = c.in_ok-replaced.ensures.table;
}

pub returns-clause-settled : goal.returns-clause-settled
returns-clause-settled c none n picked =
    c.loop-n.invariant.passing.settled none n
    (subst (λ (ns : List ℕ). Contains ns n)
    (sym (take_all c.loop-n.n-index c.args.picks.now (omega (arith, c.loop-n-test.false)))) picked)
