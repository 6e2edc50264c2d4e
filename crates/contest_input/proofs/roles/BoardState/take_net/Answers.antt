use Rattle.std.proofs.Common.{ℕ, List, ◌∷◌, [], ◌++◌, ◌-◌, ◌+◌, length, ap, sym, subst, ◌∙◌, arith}
use Rattle.tdm_problem.specs.Board.{without_repeats}
use Rattle.tdm_lines.specs.Written.{plain_line}
use Rattle.contest_input.specs.declared.roles.Role.{Role}
use Rattle.contest_input.specs.Roles.{said_in, IsInRole}
use Rattle.contest_input.proofs.RoleLaws.{nets-take, nets-done}
use Rattle.contest_input.proofs.RoleFits.{nets-fit, nets-small}
use Rattle.contest_input.proofs.roles.BoardState.take_net.Goals as goal

pub returns-then-self-gt0-clause-said : goal.returns-then-self-gt0-clause-said
returns-then-self-gt0-clause-said c = λ n end more.
    let now = c.args.self.now in
    let row = c.deref-2.ensures.value ∙ c.in_ok-narrow.ensures ∙ c.deref.ensures.value in
    let pushed = c.in_ok-push_net.ensures.ok
    ∙ ap (λ (r : List ℕ). record now.draft { nets = now.draft.nets ++ without_repeats r ∷ [] }) row in
    let listed = ap (λ (k : ℕ). now.listed + k) (c.len.ensures ∙ sym c.deref.ensures.len
    ∙ ap length c.deref.ensures.value) in
    nets-take now.sizes now.draft c.push_net.new.self now.left now.listed (now.listed + c.len.result) end
    (plain_line n now.numbers.items) more c.requires.there.some c.requires.clean listed pushed
    ∙ ap (λ (r : Role). said_in r now.sizes c.push_net.new.self (now.left - 1) (now.listed + c.len.result) end
    more) (sym c.requires.role)

pub returns-clause-said : goal.returns-clause-said
returns-clause-said c = λ n end more.
    let now = c.args.self.now in
    let row = c.deref-2.ensures.value ∙ c.in_ok-narrow.ensures ∙ c.deref.ensures.value in
    let pushed = c.in_ok-push_net.ensures.ok
    ∙ ap (λ (r : List ℕ). record now.draft { nets = now.draft.nets ++ without_repeats r ∷ [] }) row in
    let listed = ap (λ (k : ℕ). now.listed + k) (c.len.ensures ∙ sym c.deref.ensures.len
    ∙ ap length c.deref.ensures.value) in
    nets-take now.sizes now.draft c.push_net.new.self now.left now.listed (now.listed + c.len.result) end
    (plain_line n now.numbers.items) more c.requires.there.some c.requires.clean listed pushed
    ∙ nets-done now.sizes c.push_net.new.self (now.left - 1) (now.listed + c.len.result) end more
    (omega arith)
    ∙ sym (c.begin_groups.ensures.said end more)

pub returns-then-self-gt0-clause-fine : goal.returns-then-self-gt0-clause-fine
returns-then-self-gt0-clause-fine c =
    let now = c.args.self.now in
    let row = c.deref-2.ensures.value ∙ c.in_ok-narrow.ensures ∙ c.deref.ensures.value in
    let pushed = c.in_ok-push_net.ensures.ok
    ∙ ap (λ (r : List ℕ). record now.draft { nets = now.draft.nets ++ without_repeats r ∷ [] }) row in
    let listed = ap (λ (k : ℕ). now.listed + k) (c.len.ensures ∙ sym c.deref.ensures.len
    ∙ ap length c.deref.ensures.value) in
    record {
      small = nets-small now.sizes now.listed (now.listed + c.len.result) now.numbers.items c.requires.clean
          listed;
      fits = subst (λ (r : Role). IsInRole r now.sizes c.push_net.new.self (now.left - 1)
          (now.listed + c.len.result)) (sym c.requires.role)
          (nets-fit now.sizes now.draft c.push_net.new.self now.left now.listed (now.listed + c.len.result)
          now.numbers.items c.requires.there c.if-self-gt0.true c.requires.clean listed pushed);
    }
