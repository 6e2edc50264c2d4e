use Rattle.std.proofs.Common.{◌≡◌, ℕ, ◌^◌, List, length, ap, ◌∙◌, arith}
use Rattle.tdm_problem.specs.Sums.{sum_below}
use Rattle.bound_cert.specs.Floors.{part_of, rooted_depths}
use Rattle.bound_cert.proofs.Rooted.{rooted}
use Rattle.bound_cert.proofs.ShareCerts.{rooted_depths_are}
use Rattle.bound_cert.proofs.share_maker.uniform_length.Goals as goal

pub rooted_depths-total-requires-clause-few : goal.rooted_depths-total-requires-clause-few
rooted_depths-total-requires-clause-few c = omega (
  arith,
  c.requires.depths.count,
  c.in_ok-holders.ensures.board.net_limit,
)

pub returns-clause-value : goal.returns-clause-value
returns-clause-value c =
    let board = c.args.problem.now in
    let depths : List ℕ = c.args.depths.now in
    let holders : c.deref.result.now ≡ c.in_ok-holders.holders.items = c.deref.ensures.value in
    let total : c.rooted_depths-total.result ≡ rooted_depths board depths =
    c.rooted_depths-total.ensures.total ∙ ap (λ (hs : List ℕ). sum_below (length depths) (rooted hs depths))
    holders
    ∙ rooted_depths_are board c.in_ok-holders.holders.items depths c.requires.depths
    c.in_ok-holders.ensures.each in
    c.part.ensures.value ∙ ap (λ (n : ℕ). part_of n c.wires.result) total
    ∙ ap (part_of (rooted_depths board depths)) c.wires.ensures.value

pub returns-clause-within : goal.returns-clause-within
returns-clause-within c =
    c.part.ensures.within (2 ^ 40) (c.rooted_depths-total.ensures.within c.wires.result
    (λ n d there. omega (arith, c.requires.short n d there, c.wires.ensures.value)))
