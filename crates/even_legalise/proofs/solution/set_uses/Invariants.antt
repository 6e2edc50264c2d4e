use Rattle.std.proofs.Common.{◌≡◌, map, take, get_or}
use Rattle.even_legalise.specs.Uniform.{uniform_ratio}
use Rattle.even_legalise.proofs.solution.set_uses.Given as goal

abbrev pub invariant-loop-e : goal.invariant-loop-e
invariant-loop-e l =
    l.uses.items ≡ map (λ e. record { wire = e; ratio = uniform_ratio (get_or l.counts e 0) 1 })
    (take l.e-index l.wires)
