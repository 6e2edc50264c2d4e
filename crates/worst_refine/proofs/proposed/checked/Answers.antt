use Rattle.std.proofs.Common.{◌<◌, ℕ, subst, sym, arith}
use Rattle.std.specs.Prelude.{All}
use Rattle.tdm_problem.specs.declared.solution.WireUse.{WireUse}
use Rattle.worst_refine.proofs.Proposals.{even_of_small, most_of_small, is_for_trees, legal_on_trees}
use Rattle.worst_refine.proofs.proposed.checked.Goals as goal

pub fits_by_ceilings-requires-clause-there : goal.fits_by_ceilings-requires-clause-there
fits_by_ceilings-requires-clause-there c =
    let made = c.in_ok-solution.ensures in
    subst (λ (k : ℕ). All (λ uses. All (λ (u : WireUse). u.wire < k) uses) c.in_ok-solution.solution)
    (sym c.wires.ensures.value)
    (is_for_trees c.args.problem.now c.args.trees.now c.in_ok-solution.solution c.requires.trees_for
    made.rising made.wires).there

pub fits_by_ceilings-requires-clause-even : goal.fits_by_ceilings-requires-clause-even
fits_by_ceilings-requires-clause-even c =
    even_of_small c.in_ok-solution.solution c.in_ok-solution.ensures.small

pub returns-clause-better : goal.returns-clause-better
returns-clause-better c =
    let made = c.in_ok-solution.ensures in
    record {
      legal = legal_on_trees c.args.problem.now c.args.trees.now c.in_ok-solution.solution
          c.requires.trees_for made.rising c.requires.joined made.wires
          (even_of_small c.in_ok-solution.solution made.small)
          (λ e inside. c.in_ok-fits_by_ceilings.ensures c.if-not-branch.false e (omega (
            arith,
            inside,
            c.wires.ensures.value,
          )));
      wires = made.wires;
      small = most_of_small c.in_ok-solution.solution made.small;
      below = omega (arith, c.if-not-branch.false, c.in_ok-value.ensures);
    }
