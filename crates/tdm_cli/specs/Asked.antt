-- The status that a request calls for by the files when it began, where nothing outside fails and memory is
-- there.
use Rattle.std.specs.Prelude.{◌≡◌, ◌⊎◌, ◌<◌, ℕ, length, Option, Some, None, Result, Ok, Err}
use Rattle.std.specs.FinMap.{get}
use Rattle.tdm_desk.specs.Files.{Bytes, Files}
use Rattle.tdm_problem.specs.Board.{Board}
use Rattle.board_generator.specs.Generated.{generated}
use Rattle.tdm_problem.specs.Routing.{Routing}
use Rattle.tdm_problem.specs.Walk.{IsConnectable}
use Rattle.tdm_problem.specs.Legal.{IsLegal, terminals_of, AllConnectable}
use Rattle.bound_cert.specs.Certificate.{Cert}
use Rattle.bound_cert.specs.Valid.{IsValid}
use Rattle.command_run.specs.Inputs.{TextKind}
use Rattle.tdm_cli.specs.declared.status.Status.{Status}
use Rattle.tdm_cli.specs.declared.status.Status.TheVariants as status
use Rattle.tdm_cli.specs.Baseline.{IsOverUseLimit, IsWithinUseLimit}
use Rattle.tdm_cli.specs.Kinds.{boards, solutions, certificates}
use Rattle.tdm_cli.specs.Request.{Request, route, eval, check, gen, demo, nothing}

-- a text decides where it is refused, and else what follows from what it says
abbrev pub SaidFor : {V R : Type 0} → TextKind Status V R → (V → Status → Type 0) → Result V R → Status
    → Type 0
SaidFor kind Then (Ok value) answer = Then value answer
SaidFor kind Then (Err refusal) answer = answer ≡ kind.status

-- a file decides where there is none or it is refused, and else what follows from what it says
abbrev pub FileFor : {V R : Type 0} → TextKind Status V R → (V → Status → Type 0) → Option Bytes → Status
    → Type 0
FileFor kind Then None answer = answer ≡ status.NoInput
FileFor kind Then (Some bytes) answer = SaidFor kind Then (kind.says bytes) answer

-- the FPGAs of some net are not joined by the wires of the board
abbrev pub SomeUnconnectable : Board → Type 0
SomeUnconnectable board = (n : ℕ) × (n < length board.nets) × ¬ IsConnectable board (terminals_of board n)

-- what routing a board comes to: some net cannot be joined, or the baseline is over the limit on uses, or
-- neither, which is Ok
abbrev pub RoutingFor : Board → Status → Type 0
RoutingFor board status.Unconnectable = SomeUnconnectable board
RoutingFor board status.UseLimit = IsOverUseLimit board
RoutingFor board status.Ok = AllConnectable board × IsWithinUseLimit board
RoutingFor board _ = ⊥

-- one status where it holds, and another where it does not
abbrev pub YesOrNo : (Holds : Type 0) → (so otherwise answer : Status) → Type 0
YesOrNo Holds so otherwise answer = ((answer ≡ so) × Holds) ⊎ ((answer ≡ otherwise) × ¬ Holds)

-- a solution is legal or not
abbrev pub JudgingFor : Board → Routing → Status → Type 0
JudgingFor board routing = YesOrNo (IsLegal board routing) status.Ok status.Illegal

-- a certificate is valid or not
abbrev pub CheckingFor : Board → Cert → Status → Type 0
CheckingFor board cert = YesOrNo (IsValid board cert) status.Ok status.CertRejected

-- the same of a board whose nets can be joined: the baseline is over the limit on uses, or it is Ok
abbrev pub ShowingFor : Board → Status → Type 0
ShowingFor board status.UseLimit = IsOverUseLimit board
ShowingFor board status.Ok = IsWithinUseLimit board
ShowingFor board _ = ⊥

-- the status that the files call for: one input after another decides, and then what they say
abbrev pub StatusFor : Request → Files → Status → Type 0
StatusFor (route board solution cert rounds) files = FileFor boards RoutingFor (get files board)
StatusFor (eval board solution) files =
    FileFor boards (λ problem. FileFor (solutions problem) (JudgingFor problem) (get files solution))
    (get files board)
StatusFor (check board cert) files =
    FileFor boards (λ problem. FileFor (certificates problem) (CheckingFor problem) (get files cert))
    (get files board)
StatusFor (gen fpgas nets groups board) files = λ answer. answer ≡ status.Ok
StatusFor (demo fpgas nets groups solution cert) files = ShowingFor (generated fpgas nets groups)
StatusFor nothing files = λ answer. answer ≡ status.Usage

-- the answer shows a fault of the outside, or want of memory
abbrev pub IsOutsideFault : Status → Type 0
IsOutsideFault status.ReadFault = Unit {0}
IsOutsideFault status.WriteFault = Unit {0}
IsOutsideFault status.OutOfMemory = Unit {0}
IsOutsideFault _ = ⊥
