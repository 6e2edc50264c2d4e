use Rattle.std.proofs.Common.{length, subst, arith}
use Rattle.std.proofs.lemmas.Grind.{common_steps}
use Rattle.solution_text.specs.Roles.{IsStamped}
use Rattle.solution_text.specs.declared.state.Role.{Role}
use Rattle.solution_text.proofs.RoleLaws.{marks-first}
use Rattle.solution_text.proofs.state.SolutionState.begin_net.Goals as goal

pub end_net-requires-clause-marks : goal.end_net-requires-clause-marks
end_net-requires-clause-marks c =
    let now = c.args.self.now in
    let small = subst (λ (r : Role). IsStamped r now.wires (length now.solution) now.left now.count
    now.stamps.items now.uses.items) c.requires.role c.requires.fine.stamped in
    marks-first _ _ (length now.solution) (c.in_ok-make_stamps.ensures.small (length now.solution) small)
    c.clear.ensures.items

pub returns-clause-fine : goal.returns-clause-fine
returns-clause-fine c =
    let now = c.args.self.now in
    let small = subst (λ (r : Role). IsStamped r now.wires (length now.solution) now.left now.count
    now.stamps.items now.uses.items) c.requires.role c.requires.fine.stamped in
    record {
      most = c.requires.fine.most;
      largest = c.requires.fine.largest;
      nets = c.requires.fine.nets;
      read = c.requires.fine.read;
      stamped = (
        c.requires.some,
        grind (arith, common_steps),
        c.in_ok-make_stamps.ensures.count,
        marks-first _ _ (length now.solution) (c.in_ok-make_stamps.ensures.small (length now.solution) small)
            c.clear.ensures.items,
      );
    }
