use Rattle.std.proofs.Common.{◌≡◌, [], ◌∷◌, map, take}
use Rattle.worst_refine.proofs.tests.on_wire_0.Given as goal

abbrev pub invariant-loop-ratio : goal.invariant-loop-ratio
invariant-loop-ratio l = l.solution ≡ map (λ ratio. record { wire = 0; ratio = ratio } ∷ [])
    (take l.ratio-index l.ratios)
