use Rattle.std.proofs.Common.{ℕ, List, [], ◌∷◌, ◌++◌, ap, sym, ◌∙◌, arith}
use Rattle.std.specs.List.{range_with_len}
use Rattle.tdm_cli.proofs.NumberLaws.{range-more}
use Rattle.tdm_cli.proofs.numbers.all_nets.Goals as goal

pub loop-n-preserved : goal.loop-n-preserved
loop-n-preserved c =
    c.in_ok-push.ensures.items ∙ (ap (λ (ns : List ℕ). ns ++ c.loop-n.n ∷ []) c.loop-n.invariant
    ∙ sym (range-more c.loop-n.n))

pub returns : goal.returns
returns c = c.loop-n.invariant ∙ ap (range_with_len 0) (omega arith)
