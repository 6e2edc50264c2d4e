use Rattle.std.proofs.Common.{ℕ, List}
use Rattle.tdm_problem.specs.Board.{IsBoard}
use Rattle.tdm_problem.proofs.Boards.{IsBoard-push_group, holds_either_way}
use Rattle.tdm_problem.proofs.problem.Problem.push_group.Goals as goal

pub invariant_of-self : goal.invariant_of-self
invariant_of-self c =
    let fits = IsBoard-push_group _ c.args.nets.now c.self.invariant
    (rw (← c.self.view_is) at c.requires.room) (rw (← c.self.view_is) at c.requires.room_listed)
    (rw (← c.self.view_is) at c.requires.row) in
    holds_either_way (λ (rows : List (List ℕ)). IsBoard (record {
      fpgas = c.self.inside.fpgas;
      wires = c.self.inside.wires.items;
      nets = c.self.inside.nets;
      groups = rows;
    })) c.push_row.result
    _ _ _ c.push_row.ensures.ok c.push_row.ensures.err c.self.invariant fits

pub returns-clause-board : goal.returns-clause-board
returns-clause-board c =
    let fits = IsBoard-push_group _ c.args.nets.now c.self.invariant
    (rw (← c.self.view_is) at c.requires.room) (rw (← c.self.view_is) at c.requires.room_listed)
    (rw (← c.self.view_is) at c.requires.row) in
    holds_either_way (λ (rows : List (List ℕ)). IsBoard (record {
      fpgas = c.self.inside.fpgas;
      wires = c.self.inside.wires.items;
      nets = c.self.inside.nets;
      groups = rows;
    })) c.push_row.result
    _ _ _ c.push_row.ensures.ok c.push_row.ensures.err c.self.invariant fits
