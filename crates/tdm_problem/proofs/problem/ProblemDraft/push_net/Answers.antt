use Rattle.std.proofs.Common.{◌≡◌, ◌∙◌, arith}
use Rattle.tdm_problem.specs.Board.{without_repeats}
use Rattle.tdm_problem.proofs.Repeats.{length-without_repeats, IsRowBelow-without_repeats}
use Rattle.tdm_problem.proofs.problem.ProblemDraft.push_net.Goals as goal

pub push_net-requires-clause-room_listed : goal.push_net-requires-clause-room_listed
push_net-requires-clause-room_listed c =
    let kept : c.deref.result.now ≡ without_repeats c.args.fpgas.now = c.deref.ensures.value
    ∙ c.in_ok-keep.ensures in
    let board : c.self.inside.problem ≡ c.args.self.now = c.self.view_is in
    rw (kept, board) (omega (arith, length-without_repeats c.args.fpgas.now, c.requires.room_listed))

pub push_net-requires-clause-row : goal.push_net-requires-clause-row
push_net-requires-clause-row c =
    let kept : c.deref.result.now ≡ without_repeats c.args.fpgas.now = c.deref.ensures.value
    ∙ c.in_ok-keep.ensures in
    let board : c.self.inside.problem ≡ c.args.self.now = c.self.view_is in
    rw (kept, board) (IsRowBelow-without_repeats c.args.self.now.fpgas c.args.fpgas.now c.requires.some
    c.requires.there)
