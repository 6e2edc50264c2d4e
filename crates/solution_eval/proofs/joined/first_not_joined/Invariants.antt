use Rattle.std.proofs.Common.{◌≡◌, ◌≤◌, length}
use Rattle.std.specs.Prelude.{All}
use Rattle.solution_eval.specs.Violations.{IsJoined, AllBelow}
use Rattle.solution_eval.proofs.joined.first_not_joined.Given as goal

abbrev pub invariant-loop-n : goal.invariant-loop-n
invariant-loop-n l =
    AllBelow (IsJoined l.problem l.solution) l.n × (length l.workspace.marks.items ≡ l.problem.fpgas)
    × All (λ m. m ≤ l.n) l.workspace.marks.items
