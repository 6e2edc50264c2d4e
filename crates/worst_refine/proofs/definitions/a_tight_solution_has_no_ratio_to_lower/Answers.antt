use Rattle.std.proofs.Common.{zero, suc, arith}
use Rattle.worst_refine.proofs.definitions.a_tight_solution_has_no_ratio_to_lower.Goals as goal

pub returns-clause-least : goal.returns-clause-least
returns-clause-least c zero zero there place_there = λ above fits. omega (arith, above)
returns-clause-least c zero (suc place) there place_there = absurd (omega (arith, place_there))
returns-clause-least c (suc n) place there place_there = absurd (omega (arith, there))

pub returns-clause-three : goal.returns-clause-three
returns-clause-three c zero zero there place_there = λ above fits. omega (arith, above)
returns-clause-three c (suc zero) zero there place_there = λ above fits. omega (arith, fits)
returns-clause-three c (suc (suc zero)) zero there place_there = λ above fits. omega (arith, fits)
returns-clause-three c zero (suc place) there place_there = absurd (omega (arith, place_there))
returns-clause-three c (suc zero) (suc place) there place_there = absurd (omega (arith, place_there))
returns-clause-three c (suc (suc zero)) (suc place) there place_there = absurd (omega (arith, place_there))
returns-clause-three c (suc (suc (suc n))) place there place_there = absurd (omega (arith, there))

pub returns-clause-exactly_one : goal.returns-clause-exactly_one
returns-clause-exactly_one c zero zero there place_there = λ above fits. omega (arith, above)
returns-clause-exactly_one c (suc zero) zero there place_there = λ above fits. omega (arith, fits)
returns-clause-exactly_one c (suc (suc zero)) zero there place_there = λ above fits. omega (arith, fits)
returns-clause-exactly_one c (suc (suc (suc zero))) zero there place_there = λ above fits. omega (arith, fits)
returns-clause-exactly_one c zero (suc place) there place_there = absurd (omega (arith, place_there))
returns-clause-exactly_one c (suc zero) (suc place) there place_there = absurd (omega (arith, place_there))
returns-clause-exactly_one c (suc (suc zero)) (suc place) there place_there =
    absurd (omega (arith, place_there))
returns-clause-exactly_one c (suc (suc (suc zero))) (suc place) there place_there =
    absurd (omega (arith, place_there))
returns-clause-exactly_one c (suc (suc (suc (suc n)))) place there place_there = absurd (omega (arith, there))

pub returns-clause-room : goal.returns-clause-room
returns-clause-room c tight = tight 0 0 (omega arith) (omega arith) (omega arith) (omega arith)

pub returns-clause-largest : goal.returns-clause-largest
returns-clause-largest c tight = tight 0 0 (omega arith) (omega arith) (omega arith) (omega arith)

pub returns-clause-second_use : goal.returns-clause-second_use
returns-clause-second_use c tight = tight 0 1 (omega arith) (omega arith) (omega arith) (omega arith)
