use Rattle.std.proofs.Common.{ℕ, ◌+◌, ◌*◌, ◌^◌, ◌<◌, ◌≤◌}

-- two guesses at the root of n in turn: neither is below it, and the first is not above it where the second
-- is no less
pub record AreGuesses (n guess closer : ℕ) : Type 0 where
  pub some : 0 < n
  pub positive : 0 < closer
  pub bound : guess ≤ 2 ^ 32
  pub guess_not_below : n < (guess + 1) * (guess + 1)
  pub closer_not_below : n < (closer + 1) * (closer + 1)
  pub root_reached : guess ≤ closer → guess * guess ≤ n
