-- The members of a board, one more at the end.
use Rattle.std.proofs.Common.{◌≡◌, ◌<◌, List, [], ◌∷◌, ◌++◌, length, sym, subst}
use Rattle.std.specs.Prelude.{All}
use Rattle.std.proofs.lemmas.List.Elements.{All-push}
use Rattle.tdm_problem.specs.Board.{Board}
use Rattle.worst_refine.specs.declared.members.Member.{Member}
use Rattle.worst_refine.specs.Members.{AreMembersOf}
use Rattle.worst_refine.specs.declared.net_uses.NetUse.{NetUse}
use Rattle.worst_refine.specs.NetUses.{AreUsesOn}

pub member_push : (board : Board) (members new : List Member) (m : Member) → m.net < length board.nets
    → m.group < length board.groups → new ≡ members ++ m ∷ [] → AreMembersOf board members
    → AreMembersOf board new
member_push board members new m net group is so_far = record {
  nets = subst (λ (ms : List Member). All (λ (x : Member). x.net < length board.nets) ms) (sym is)
      (All-push (λ (x : Member). x.net < length board.nets) members m so_far.nets net);
  groups = subst (λ (ms : List Member). All (λ (x : Member). x.group < length board.groups) ms) (sym is)
      (All-push (λ (x : Member). x.group < length board.groups) members m so_far.groups group);
}

-- and the uses of its wires
pub use_push : (board : Board) (uses new : List NetUse) (u : NetUse) → u.net < length board.nets
    → u.wire < length board.wires → new ≡ uses ++ u ∷ [] → AreUsesOn board uses → AreUsesOn board new
use_push board uses new u net wire is so_far = record {
  nets = subst (λ (us : List NetUse). All (λ (x : NetUse). x.net < length board.nets) us) (sym is)
      (All-push (λ (x : NetUse). x.net < length board.nets) uses u so_far.nets net);
  wires = subst (λ (us : List NetUse). All (λ (x : NetUse). x.wire < length board.wires) us) (sym is)
      (All-push (λ (x : NetUse). x.wire < length board.wires) uses u so_far.wires wire);
}
