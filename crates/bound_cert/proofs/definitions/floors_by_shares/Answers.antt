use Rattle.std.proofs.Common.{◌≡◌, ℕ, ◌*◌, ◌-◌, ◌+◌, ap, sym, arith, [], ◌∷◌}
use Rattle.tdm_problem.specs.Board.{Board}
use Rattle.tdm_problem.specs.Laws.{RootLaw}
use Rattle.tdm_problem.specs.Roots.{root_of}
use Rattle.tdm_problem.specs.Samples.{shared}
use Rattle.bound_cert.specs.Bound.{least_even}
use Rattle.bound_cert.specs.Floors.{rooted_depths, part_of}
use Rattle.bound_cert.proofs.definitions.floors_by_shares.Goals as goal

abbrev three_groups : Board
three_groups = record shared { groups = (0 ∷ []) ∷ (1 ∷ []) ∷ (2 ∷ []) ∷ [] }

module _ (law : RootLaw) where
  root : root_of 1048576 ≡ 1024
  root = sym ((law 1048576 1024).0 (omega arith, omega arith))

  rooted : rooted_depths shared (1 ∷ 1 ∷ 1 ∷ []) ≡ 3072
  rooted = ap (λ (r : ℕ). 0 + r * 1 + r * 1 + r * 1) root

  rooted_apart : rooted_depths three_groups (1 ∷ 1 ∷ 1 ∷ []) ≡ 3072
  rooted_apart = ap (λ (r : ℕ). 0 + r * 1 + r * 1 + r * 1) root

pub returns-clause-length : goal.returns-clause-length
returns-clause-length c = ap (λ (t : ℕ). part_of t 1) (rooted c.root_is_exact.ensures)

pub returns-clause-together : goal.returns-clause-together
returns-clause-together c =
    ap (λ (t : ℕ). least_even (2 * part_of t 1 * t - 1 * (part_of t 1 * part_of t 1)) 1048576)
    (rooted c.root_is_exact.ensures)

pub returns-clause-apart : goal.returns-clause-apart
returns-clause-apart c =
    ap (λ (t : ℕ). least_even (2 * part_of t 1 * t - 1 * (part_of t 1 * part_of t 1)) 3145728)
    (rooted_apart c.root_is_exact.ensures)
