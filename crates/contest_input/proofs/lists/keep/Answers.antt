use Rattle.std.proofs.Common.{ℕ, List, [], ◌∷◌, ◌++◌, ◌-◌, ◌<◌, ◌≤◌, ◌≡◌, length, get_or, set, subst, arith, rules}
use Rattle.std.proofs.lemmas.Grind.{common_steps}
use Rattle.contest_input.specs.Roles.{IsKeptOf}
use Rattle.contest_input.proofs.KeptNumbers.{kept-larger}
use Rattle.contest_input.proofs.lists.keep.Goals as goal

pub returns-then-index-number : goal.returns-then-index-number
returns-then-index-number c = λ whole so_far.
    let kept : List ℕ = c.args.numbers.now.items in
    let full : c.args.room ≤ length kept = omega (arith, c.if-len-room.false, c.len.ensures) in
    let less : get_or kept (length kept - 1) 0 < c.args.number = search (rules, common_steps) in
    let count : length kept ≡ c.len-last.result = search (rules, common_steps) in
    subst (λ (n : ℕ). IsKeptOf c.args.room (set kept (n - 1) c.args.number) (whole ++ c.args.number ∷ []))
    count
    (kept-larger c.args.room c.args.number kept whole c.requires full less so_far)
