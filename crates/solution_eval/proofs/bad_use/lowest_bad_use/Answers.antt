use Rattle.std.proofs.Common.{◌<◌, length, arith}
use Rattle.std.proofs.lemmas.List.Elements.{All-more}
use Rattle.std.proofs.lemmas.Bool.{both_ways}
use Rattle.tdm_problem.specs.declared.solution.WireUse.{WireUse}
use Rattle.tdm_problem.specs.Legal.{IsEvenRatio}
use Rattle.solution_eval.proofs.BadUses.{lowest_here, all_even}
use Rattle.solution_eval.proofs.bad_use.lowest_bad_use.Goals as goal

pub returns-then-not-is_even_ratio : goal.returns-then-not-is_even_ratio
returns-then-not-is_even_ratio c =
    lowest_here c.args.uses.now c.loop-wire_use.wire_use-index _ c.requires
    (omega arith) c.loop-wire_use.invariant
    (λ even. both_ways c.is_even_ratio.result c.if-not-is_even_ratio.true (c.is_even_ratio.ensures.1 even))

pub loop-wire_use-preserved : goal.loop-wire_use-preserved
loop-wire_use-preserved c =
    let inside : c.loop-wire_use.wire_use-index < length c.args.uses.now = omega arith in
    All-more (λ (u : WireUse). IsEvenRatio u.ratio) c.args.uses.now c.loop-wire_use.wire_use-index _ inside
    c.loop-wire_use.invariant (c.is_even_ratio.ensures.0 c.if-not-is_even_ratio.false)

pub returns : goal.returns
returns c = all_even c.args.uses.now c.loop-wire_use.wire_use-index (omega arith) c.loop-wire_use.invariant
