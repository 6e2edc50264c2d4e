use Rattle.std.proofs.Common.{rules, ◌≡◌, ℕ, ◌^◌, ◌≤◌, List, ap, sym, subst, ◌∙◌, arith}
use Rattle.std.specs.Prelude.{replicate, Option, Some, IfSome}
use Rattle.bound_cert.specs.declared.certificate.CertKind.TheVariants.{Share}
use Rattle.bound_cert.specs.Bound.{IsBound}
use Rattle.bound_cert.specs.Makers.{growing_cert}
use Rattle.tdm_cli.specs.declared.candidates.Candidate.{Candidate}
use Rattle.tdm_cli.specs.declared.certify.Certified.{Certified}
use Rattle.tdm_cli.specs.Rounds.{first_weights, MeetsRounds}
use Rattle.tdm_cli.specs.Running.{MeetsFrom}
use Rattle.tdm_cli.proofs.RunningLaws.{meets-rounds}
use Rattle.tdm_cli.proofs.rounds.improve.Goals as goal

pub returns-clause-rounds : goal.returns-clause-rounds
returns-clause-rounds c some =
    let board = c.args.problem.now in
    let running = c.all_rounds.new.running in
    let before = running.best in
    let grown = c.keep_grown_rounds.new.best.certified.bound in
    let bound = c.keep_grown_group.new.best.certified.bound in
    let value = c.tighten_best.new.best.value in
    let same : before.value ≡ c.keep_grown_group.new.best.value =
    sym (c.keep_grown_group.ensures.value ∙ c.keep_grown_rounds.ensures.value) in
    let weights : c.in_ok-weights.weights.items ≡ first_weights board =
    c.in_ok-weights.ensures.items_if_clones_equal (search rules)
    ∙ ap (λ (k : ℕ). replicate k (2 ^ 20)) c.groups.ensures.value in
    let last : (candidate : Candidate) → running.candidates.last ≡ Some candidate → (other : ℕ)
    → IsBound board (growing_cert board Share candidate.weights.items candidate.lengths.items) other
    → other ≤ bound =
    λ candidate is other bounds. omega (
      arith,
      subst (λ (o : Option Candidate). IfSome o (λ (x : Candidate). (k : ℕ)
          → IsBound board (growing_cert board Share x.weights.items x.lengths.items) k → k ≤ grown)) is
          c.in_ok-keep_grown_rounds.ensures.last other bounds,
      c.in_ok-keep_grown_group.ensures.higher,
    ) in
    subst (λ (certified : Certified). MeetsRounds board c.args.trees c.args.rounds value certified.bound)
    (sym c.in_ok-tighten_best.ensures.certified)
    (meets-rounds board c.args.trees c.args.rounds before.value value before.certified.bound bound
    running.candidates.last
    (omega (arith, c.in_ok-tighten_best.ensures.lower, same))
    (omega (arith, c.in_ok-keep_grown_rounds.ensures.higher, c.in_ok-keep_grown_group.ensures.higher))
    last
    (subst (λ (ws : List ℕ). MeetsFrom board c.args.rounds ws c.args.trees before.value before.certified.bound
    running.candidates.last) weights
    (c.in_ok-all_rounds.ensures.rounds (omega (arith, some, c.in_ok-tighten_best.ensures.lower, same)))))
