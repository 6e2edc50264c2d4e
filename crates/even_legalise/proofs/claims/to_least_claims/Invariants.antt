use Rattle.std.proofs.Common.{◌≡◌, ◌++◌, map, take, drop}
use Rattle.std.specs.Prelude.{max}
use Rattle.std.specs.Int.{div_ceil}
use Rattle.even_legalise.proofs.claims.to_least_claims.Given as goal

abbrev pub invariant-loop-number : goal.invariant-loop-number
invariant-loop-number l = l.most ≡ map (λ number. max (div_ceil number 1024) 1)
    (take l.number-index l.initial.most) ++ drop l.number-index l.initial.most
