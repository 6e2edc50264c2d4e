use Rattle.std.proofs.Common.{◌≡◌, ℕ, ◌∷◌, [], ◌++◌, ◌+◌, arith, subst, sym, length}
use Rattle.tdm_problem.specs.Board.{Board}
use Rattle.tdm_problem.specs.Walk.{IsConnectable}
use Rattle.tdm_problem.specs.Legal.{terminals_of, source_of}
use Rattle.shortest_forest.specs.Baseline.{IsBaseTree}
use Rattle.tdm_cli.specs.Progress.{IsProgress}
use Rattle.tdm_cli.proofs.ProgressLaws.{progress-past, progress-over, progress-kept}
use Rattle.tdm_cli.proofs.BaselineLaws.{never-empty, on-ok-then}
use Rattle.tdm_cli.proofs.baseline.Progress.keep.Goals as goal

pub returns-then-not-is_empty : goal.returns-then-not-is_empty
returns-then-not-is_empty c = λ board n so_far joined base.
    progress-past board n _ _ _ so_far joined c.args.tree.now base
    (λ empty. absurd (never-empty _ _ (omega arith) c.if-not-is_empty.ensures empty))

pub returns-then-self-gt-MAX_USES : goal.returns-then-self-gt-MAX_USES
returns-then-self-gt-MAX_USES c = λ board n so_far joined base.
    progress-past board n _ _ _ so_far joined c.args.tree.now base (λ empty. c.if-self-gt-MAX_USES.true)

pub returns-then-self-gt-MAX_USES-2 : goal.returns-then-self-gt-MAX_USES-2
returns-then-self-gt-MAX_USES-2 c = λ board n so_far joined base.
    progress-over board n _ _ _ so_far joined c.args.tree.now base c.if-self-gt-MAX_USES.false
    c.if-self-gt-MAX_USES-2.true

pub returns : goal.returns
returns c = on-ok-then c.push_net.result (c.push_net.new.self ≡ c.args.self.now.trees ++ c.args.tree.now ∷ [])
    ((board : Board) → (n : ℕ)
    → IsProgress board n c.args.self.now.trees c.args.self.now.used c.args.self.now.missing.items
    → IsConnectable board (terminals_of board n)
    → IsBaseTree board (source_of board n) (terminals_of board n) c.args.tree.now
    → IsProgress board (n + 1) c.push_net.new.self (c.args.self.now.used + length c.args.tree.now)
    c.args.self.now.missing.items)
    c.push_net.ensures.ok
    (λ pushed. λ board n so_far joined base.
    subst (λ trees. IsProgress board (n + 1) trees (c.args.self.now.used + length c.args.tree.now)
    c.args.self.now.missing.items) (sym pushed)
    (progress-kept board n _ _ _ so_far joined c.args.tree.now base c.if-self-gt-MAX_USES.false))
