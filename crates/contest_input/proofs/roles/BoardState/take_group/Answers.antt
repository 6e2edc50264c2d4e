use Rattle.std.proofs.Common.{ℕ, List, ◌∷◌, [], ◌++◌, ◌-◌, ◌+◌, length, ap, sym, subst, ◌∙◌, arith}
use Rattle.tdm_problem.specs.Board.{without_repeats}
use Rattle.tdm_lines.specs.Written.{plain_line}
use Rattle.contest_input.specs.declared.roles.Role.{Role}
use Rattle.contest_input.specs.Roles.{said_in, IsInRole}
use Rattle.contest_input.proofs.RoleLaws.{groups-take, groups-done}
use Rattle.contest_input.proofs.RoleFits.{groups-fit, groups-small}
use Rattle.contest_input.proofs.roles.BoardState.take_group.Goals as goal

pub returns-then-self-gt0-clause-said : goal.returns-then-self-gt0-clause-said
returns-then-self-gt0-clause-said c = λ n end more.
    let now = c.args.self.now in
    let row = c.deref-2.ensures.value ∙ c.in_ok-narrow.ensures ∙ c.deref.ensures.value in
    let pushed = c.in_ok-push_group.ensures.ok
    ∙ ap (λ (r : List ℕ). record now.draft { groups = now.draft.groups ++ without_repeats r ∷ [] }) row in
    let listed = ap (λ (k : ℕ). now.listed + k) (c.len.ensures ∙ sym c.deref.ensures.len
    ∙ ap length c.deref.ensures.value) in
    groups-take now.sizes now.draft c.push_group.new.self now.left now.listed (now.listed + c.len.result) end
    (plain_line n now.numbers.items) more c.requires.there.some c.requires.clean listed pushed
    ∙ ap (λ (r : Role). said_in r now.sizes c.push_group.new.self (now.left - 1) (now.listed + c.len.result)
    end more) (sym c.requires.role)

pub returns-clause-said : goal.returns-clause-said
returns-clause-said c = λ n end more.
    let now = c.args.self.now in
    let row = c.deref-2.ensures.value ∙ c.in_ok-narrow.ensures ∙ c.deref.ensures.value in
    let pushed = c.in_ok-push_group.ensures.ok
    ∙ ap (λ (r : List ℕ). record now.draft { groups = now.draft.groups ++ without_repeats r ∷ [] }) row in
    let listed = ap (λ (k : ℕ). now.listed + k) (c.len.ensures ∙ sym c.deref.ensures.len
    ∙ ap length c.deref.ensures.value) in
    groups-take now.sizes now.draft c.push_group.new.self now.left now.listed (now.listed + c.len.result) end
    (plain_line n now.numbers.items) more c.requires.there.some c.requires.clean listed pushed
    ∙ groups-done now.sizes c.push_group.new.self (now.left - 1) (now.listed + c.len.result) end more
    (omega arith)

pub returns-then-self-gt0-clause-fine : goal.returns-then-self-gt0-clause-fine
returns-then-self-gt0-clause-fine c =
    let now = c.args.self.now in
    let row = c.deref-2.ensures.value ∙ c.in_ok-narrow.ensures ∙ c.deref.ensures.value in
    let pushed = c.in_ok-push_group.ensures.ok
    ∙ ap (λ (r : List ℕ). record now.draft { groups = now.draft.groups ++ without_repeats r ∷ [] }) row in
    let listed = ap (λ (k : ℕ). now.listed + k) (c.len.ensures ∙ sym c.deref.ensures.len
    ∙ ap length c.deref.ensures.value) in
    record {
      small = groups-small now.sizes now.listed (now.listed + c.len.result) now.numbers.items c.requires.clean
          listed;
      fits = subst (λ (r : Role). IsInRole r now.sizes c.push_group.new.self (now.left - 1)
          (now.listed + c.len.result)) (sym c.requires.role)
          (groups-fit now.sizes now.draft c.push_group.new.self now.left now.listed
          (now.listed + c.len.result) now.numbers.items c.requires.there c.if-self-gt0.true
          c.requires.clean listed pushed);
    }
