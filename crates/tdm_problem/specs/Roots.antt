use Rattle.std.specs.Prelude.{ℕ, zero, suc, ◌+◌, ◌*◌, ◌<◌, ◌≤◌, nat_le, if◌then◌else◌}

-- r is the greatest number whose square is at most n
abbrev pub IsRoot : (n r : ℕ) → Type 0
IsRoot n r = (r * r ≤ n) × (n < (r + 1) * (r + 1))

-- r, or the number after it where its square is at most n
abbrev pub next_root : (r n : ℕ) → ℕ
next_root r n = if nat_le ((r + 1) * (r + 1)) n then r + 1 else r

-- the whole square root of n
unfoldable pub root_of : ℕ → ℕ
root_of zero = 0
root_of (suc n) = next_root (root_of n) (suc n)
