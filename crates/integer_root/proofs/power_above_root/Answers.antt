use Rattle.std.proofs.Common.{◌≤◌, ◌<◌, ℕ, ◌+◌, ◌*◌, ◌/◌, ◌^◌, arith}
use Rattle.std.proofs.lemmas.Nat.{pow-add, one_shl}
use Rattle.std.proofs.Math.Pow.{pow_mono}
use Rattle.integer_root.proofs.power_above_root.Goals as goal

square_above : (n k : ℕ) → n < 2 * 2 ^ k → n < 2 ^ (k / 2 + 1) * 2 ^ (k / 2 + 1)
square_above n k h =
    let half : k + 1 ≤ (k / 2 + 1) + (k / 2 + 1) = omega arith in
    let more : 2 ^ (k + 1) ≤ 2 ^ ((k / 2 + 1) + (k / 2 + 1)) = pow_mono half in
    omega (arith, pow-add 2 k 1, pow-add 2 (k / 2 + 1) (k / 2 + 1), more)

pub returns-clause-above : goal.returns-clause-above
returns-clause-above c = rw (one_shl (c.ilog2.result / 2 + 1) 64 (omega arith))
    (square_above c.args.n c.ilog2.result c.ilog2.ensures.next_power_gt)
