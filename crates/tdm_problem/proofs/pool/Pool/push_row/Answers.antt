use Rattle.tdm_problem.proofs.Pools.{HasRows-pushed}
use Rattle.tdm_problem.proofs.pool.Pool.push_row.Goals as goal

pub invariant_of-self-else-is_err : goal.invariant_of-self-else-is_err
invariant_of-self-else-is_err c =
    let pushed = rw c.if-is_err.ensures.negation at c.push.ensures.items in
    rw pushed (HasRows-pushed _ _ _ _ _ c.self.invariant c.self.view_is c.in_ok-spot.ensures.spot).pool

pub returns-clause-ok : goal.returns-clause-ok
returns-clause-ok c =
    let pushed = rw c.if-is_err.ensures.negation at c.push.ensures.items in
    rw pushed (HasRows-pushed _ _ _ _ _ c.self.invariant c.self.view_is c.in_ok-spot.ensures.spot).view
