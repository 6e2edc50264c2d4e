use Rattle.std.proofs.Common.{◌≡◌, ◌-◌, ◌++◌, [], ◌∷◌, length, set, sym, subst, arith, rules}
use Rattle.std.proofs.lemmas.Grind.{common_steps}
use Rattle.std.proofs.lemmas.List.{length-set}
use Rattle.solution_text.specs.Roles.{IsStamped}
use Rattle.solution_text.specs.declared.state.Role.{Role}
use Rattle.solution_text.proofs.RoleLaws.{marks-more}
use Rattle.solution_text.proofs.state.SolutionState.add_use.Goals as goal

pub end_net-requires-clause-marks : goal.end_net-requires-clause-marks
end_net-requires-clause-marks c =
    let now = c.args.self.now in
    let stamped = subst (λ (r : Role). IsStamped r now.wires (length now.solution) now.left now.count
    now.stamps.items now.uses.items) c.requires.role c.requires.fine.stamped in
    let items : c.push.new.self.items ≡ now.uses.items ++ c.args.used ∷ [] = search (rules, common_steps) in
    marks-more now.stamps.items now.uses.items _ c.args.used c.stamp-stamp.result (length now.solution)
    stamped.3 c.requires.there c.requires.unused c.stamp-stamp.ensures items

pub returns-clause-fine : goal.returns-clause-fine
returns-clause-fine c =
    let now = c.args.self.now in
    let stamped = subst (λ (r : Role). IsStamped r now.wires (length now.solution) now.left now.count
    now.stamps.items now.uses.items) c.requires.role c.requires.fine.stamped in
    let items : c.push.new.self.items ≡ now.uses.items ++ c.args.used ∷ [] = search (rules, common_steps) in
    record {
      most = c.requires.fine.most;
      largest = c.requires.fine.largest;
      nets = c.requires.fine.nets;
      read = c.requires.fine.read;
      stamped = subst (λ (r : Role). IsStamped r now.wires (length now.solution) now.left (now.count - 1)
          (set now.stamps.items c.args.used.wire c.stamp-stamp.result) c.push.new.self.items)
          (sym c.requires.role) (
            stamped.0,
            grind (arith, common_steps),
            rw length-set stamped.2,
            marks-more now.stamps.items now.uses.items _ c.args.used c.stamp-stamp.result
                (length now.solution)
                stamped.3 c.requires.there c.requires.unused c.stamp-stamp.ensures items,
          );
    }
