use Rattle.std.proofs.Common.{◌≡◌, ◌∙◌, length, arith}
use Rattle.tdm_problem.specs.Board.{without_repeats}
use Rattle.tdm_problem.proofs.Repeats.{length-without_repeats, IsRowBelow-without_repeats}
use Rattle.tdm_problem.proofs.problem.ProblemDraft.push_group.Goals as goal

pub push_group-requires-clause-room_listed : goal.push_group-requires-clause-room_listed
push_group-requires-clause-room_listed c =
    let kept : c.deref.result.now ≡ without_repeats c.args.nets.now = c.deref.ensures.value
    ∙ c.in_ok-keep.ensures in
    let board : c.self.inside.problem ≡ c.args.self.now = c.self.view_is in
    rw (kept, board) (omega (arith, length-without_repeats c.args.nets.now, c.requires.room_listed))

pub push_group-requires-clause-row : goal.push_group-requires-clause-row
push_group-requires-clause-row c =
    let kept : c.deref.result.now ≡ without_repeats c.args.nets.now = c.deref.ensures.value
    ∙ c.in_ok-keep.ensures in
    let board : c.self.inside.problem ≡ c.args.self.now = c.self.view_is in
    rw (kept, board) (IsRowBelow-without_repeats (length c.args.self.now.nets) c.args.nets.now c.requires.some
    c.requires.there)
