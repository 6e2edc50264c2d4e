use Rattle.std.proofs.Common.{◌≤◌, ◌^◌, ◌∙◌, subst, sym}
use Rattle.std.specs.Prelude.{All}
use Rattle.ripup_reroute.proofs.Summing.{loads-small, squares-cost}
use Rattle.ripup_reroute.proofs.PassLaws.{all-passes}
use Rattle.ripup_reroute.proofs.passes.reroute_with.Goals as goal

pub cost_of-phi-requires-clause-small : goal.cost_of-phi-requires-clause-small
cost_of-phi-requires-clause-small c =
    subst (All (λ x. x ≤ 2 ^ 50)) (sym c.deref.ensures.value)
    (loads-small c.args.problem.now c.all_passes.new.trees c.args.s.now c.all_passes.new.loads.items
    c.loads_of.ensures.board
    (record { count = c.requires.count; small = c.requires.small })
    c.all_passes.ensures.rerouted.minimal.for_board.nets c.in_ok-settled.ensures.loads)

pub returns-clause-passes : goal.returns-clause-passes
returns-clause-passes c =
    all-passes c.args.problem.now c.args.s.now c.args.picks.now c.args.passes c.args.trees.now
    c.all_passes.new.trees c.in_ok-settled.settled
    c.in_ok-settled.ensures.settled c.in_ok-settled.ensures.rest c.in_ok-settled.ensures.falling

pub returns-clause-outcome : goal.returns-clause-outcome
returns-clause-outcome c = record {
  cost_is = (rw c.deref.ensures.value at c.cost_of-phi.ensures)
      ∙ squares-cost c.args.problem.now c.all_passes.new.trees c.args.s.now c.all_passes.new.loads.items
      c.in_ok-settled.ensures.loads;
  settles = c.in_ok-settled.ensures.settled;
  rests = c.in_ok-settled.ensures.rest;
  falls = c.in_ok-settled.ensures.falling;
}

pub all_passes-requires-clause-table : goal.all_passes-requires-clause-table
all_passes-requires-clause-table c = c.in_ok-tools.ensures.table c.in_ok-loads.loads.items
