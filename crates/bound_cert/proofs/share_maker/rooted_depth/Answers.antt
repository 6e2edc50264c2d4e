use Rattle.std.proofs.Common.{◌≡◌, ℕ, ◌*◌, ◌≤◌, ap, ◌∙◌, arith}
use Rattle.std.proofs.lemmas.Nat.{mul-le}
use Rattle.tdm_problem.specs.Limits.{most_fpgas}
use Rattle.tdm_problem.specs.Roots.{root_of}
use Rattle.tdm_problem.proofs.Roots.{root_of-is}
use Rattle.bound_cert.specs.Limits.{uniform_weight}
use Rattle.bound_cert.proofs.ShareNumbers.{root_small}
use Rattle.bound_cert.proofs.share_maker.rooted_depth.Goals as goal

small : (c : goal.After-from-2) → c.from-2.result ≤ uniform_weight
small c =
    let square : c.isqrt-root.result * c.isqrt-root.result ≤ uniform_weight * c.args.holders =
    omega (
      arith,
      c.isqrt-root.ensures.square_at_most,
      ap (λ (n : ℕ). uniform_weight * n) c.from.ensures,
    ) in
    omega (arith, root_small c.isqrt-root.result c.args.holders square c.requires.few, c.from-2.ensures)

pub overflow_mul-result : goal.overflow_mul-result
overflow_mul-result c =
    omega (arith, mul-le c.from-2.result c.args.depth uniform_weight most_fpgas (small c) c.requires.small)

pub returns-clause-value : goal.returns-clause-value
returns-clause-value c =
    let n : ℕ = uniform_weight * c.args.holders in
    let weight : uniform_weight * c.from.result ≡ n = ap (λ (k : ℕ). uniform_weight * k) c.from.ensures in
    let root : c.isqrt-root.result ≡ root_of n =
    root_of-is n c.isqrt-root.result (omega (arith, c.isqrt-root.ensures.square_at_most, weight))
    (omega (arith, c.isqrt-root.ensures.next_square_above, weight)) in
    ap (λ (r : ℕ). r * c.args.depth) (c.from-2.ensures ∙ root)

pub returns-clause-within : goal.returns-clause-within
returns-clause-within c = mul-le c.from-2.result c.args.depth uniform_weight c.args.depth (small c)
    (omega arith)
