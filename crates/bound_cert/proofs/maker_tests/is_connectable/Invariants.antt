use Rattle.std.proofs.Common.{ℕ, ◌<◌}
use Rattle.tdm_problem.specs.Legal.{terminals_of}
use Rattle.tdm_problem.specs.Walk.{IsConnectable}
use Rattle.bound_cert.proofs.maker_tests.is_connectable.Given as goal

abbrev pub invariant-loop-n : goal.invariant-loop-n
invariant-loop-n l = (k : ℕ) → k < l.n → IsConnectable l.problem (terminals_of l.problem k)
