use Rattle.std.proofs.Common.{◌≡◌, map, take}
use Rattle.even_legalise.proofs.SharedSteps.{claimed_ratio}
use Rattle.even_legalise.proofs.shared.set_shared_uses.Given as goal

abbrev pub invariant-loop-e : goal.invariant-loop-e
invariant-loop-e l =
    l.uses.items ≡ map (λ e. record { wire = e; ratio = claimed_ratio l.least l.claims l.number e })
    (take l.e-index l.wires)
