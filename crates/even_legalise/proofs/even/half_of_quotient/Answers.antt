use Rattle.std.proofs.Common.{◌*◌, ◌/◌, ◌≤◌, ◌^◌, arith}
use Rattle.std.proofs.Math.Nat.{le_of_mul-le-mul_right}
use Rattle.even_legalise.proofs.Evens.{half_within, half-above}
use Rattle.even_legalise.proofs.even.half_of_quotient.Goals as goal

pub returns-clause-within : goal.returns-clause-within
returns-clause-within c = half_within c.args.claims c.args.part

pub returns-clause-above : goal.returns-clause-above
returns-clause-above c = half-above c.args.claims c.args.part c.requires.some

pub returns-clause-small : goal.returns-clause-small
returns-clause-small c =
    let twice : 2 * (c.args.claims / c.args.part / 2) ≤ 2 ^ 30 =
    le_of_mul-le-mul_right (omega (arith, half_within c.args.claims c.args.part)) c.requires.some in
    omega arith
