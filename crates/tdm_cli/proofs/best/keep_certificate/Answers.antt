use Rattle.std.proofs.Common.{◌≡◌, ℕ, List, sym, ap, ◌∙◌, subst, arith}
use Rattle.tdm_problem.specs.Roots.{root_of}
use Rattle.tdm_problem.specs.Weights.{net_weight}
use Rattle.bound_cert.specs.Bound.{bound_of, IsBound}
use Rattle.bound_cert.specs.Weighted.{IsShareBound, ListsLengths}
use Rattle.bound_cert.proofs.OneBound.{chosen_bound}
use Rattle.tdm_cli.proofs.best.keep_certificate.Goals as goal

pub bound_by_shares-bound-requires-clause-roots : goal.bound_by_shares-bound-requires-clause-roots
bound_by_shares-bound-requires-clause-roots c n there =
    c.requires.roots.each n there
    ∙ ap (λ (ws : List ℕ). root_of (net_weight c.args.problem.now.groups ws n))
    (sym (c.in_ok-cert.ensures.made.weights_are ∙ c.deref.ensures.value))

pub returns-clause-best : goal.returns-clause-best
returns-clause-best c =
    let board = c.args.problem.now in
    let cert = c.in_ok-cert.cert in
    c.keep_greater.ensures.best board (record {
      within = c.in_ok-cert.ensures.within;
      for_board = c.in_ok-cert.ensures.for_problem;
      few = c.in_ok-cert.ensures.few;
      valid = c.in_ok-cert.ensures.valid;
      is_bound = subst (IsBound board cert) (sym c.bound_by_shares-bound.ensures.value)
          (chosen_bound board cert c.in_ok-cert.ensures.made.chosen);
      lower = c.bound_by_shares-bound.ensures.lower c.in_ok-cert.ensures.valid;
    }) c.requires.best

pub returns-clause-bound : goal.returns-clause-bound
returns-clause-bound c wire_length lists other is =
    let board = c.args.problem.now in
    let same : other ≡ bound_of board c.in_ok-cert.cert =
    c.in_ok-cert.ensures.only_bound wire_length
    (subst (λ (ls : List ℕ). ListsLengths board ls wire_length) (sym c.deref-2.ensures.value) lists) other
    (subst (λ (ws : List ℕ). IsShareBound board ws wire_length other) (sym c.deref.ensures.value) is) in
    omega (arith, same, c.bound_by_shares-bound.ensures.value, c.keep_greater.ensures.bound)
