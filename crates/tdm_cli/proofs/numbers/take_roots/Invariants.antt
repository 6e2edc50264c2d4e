use Rattle.std.proofs.Common.{◌≡◌, ◌++◌, map, take, drop}
use Rattle.tdm_problem.specs.Roots.{root_of}
use Rattle.tdm_cli.proofs.numbers.take_roots.Given as goal

abbrev pub invariant-loop-number : goal.invariant-loop-number
invariant-loop-number l = l.numbers ≡ map root_of (take l.number-index l.initial.numbers)
    ++ drop l.number-index l.initial.numbers
