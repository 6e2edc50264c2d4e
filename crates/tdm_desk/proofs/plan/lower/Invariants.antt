use Rattle.std.proofs.Common.{◌≡◌, ◌-◌, ◌++◌, map, take, drop}
use Rattle.tdm_desk.proofs.plan.lower.Given as goal

abbrev pub invariant-loop-n : goal.invariant-loop-n
invariant-loop-n l = l.numbers ≡ map (λ n. n - 1) (take l.n-index l.initial.numbers)
    ++ drop l.n-index l.initial.numbers
