-- What the outcome of a run is worth, in terms of the files when it began.
use Rattle.std.specs.Prelude.{◌≡◌, ℕ, ◌<◌, ◌≤◌, ◌++◌, length, sum_by, Some, Ok, option_map}
use Rattle.std.specs.FinMap.{get}
use Rattle.tdm_desk.specs.Files.{Bytes, Name, Files, with_file}
use Rattle.tdm_desk.specs.Seen.{Seen, files_of, said_of}
use Rattle.tdm_problem.specs.Board.{Board}
use Rattle.tdm_problem.specs.Routing.{Routing, uses_of, wires_of}
use Rattle.tdm_problem.specs.Tight.{IsTight}
use Rattle.tdm_problem.specs.Walk.{IsMinimalTree}
use Rattle.tdm_problem.specs.Legal.{IsLegal, terminals_of}
use Rattle.tdm_problem.specs.Value.{value_of}
use Rattle.board_generator.specs.Generated.{generated}
use Rattle.contest_input.specs.BoardText.{board_of}
use Rattle.contest_input.specs.Canonical.{board_text}
use Rattle.solution_text.specs.Text.{solution_text}
use Rattle.solution_text.specs.Reading.{solution_of}
use Rattle.solution_eval.specs.declared.judgement.Verdict.{Verdict}
use Rattle.solution_eval.specs.declared.judgement.Verdict.TheVariants.{Legal}
use Rattle.solution_eval.specs.Verdict.{IsVerdict, SaysLegal}
use Rattle.bound_cert.specs.Certificate.{Cert}
use Rattle.bound_cert.specs.CertText.{cert_text}
use Rattle.bound_cert.specs.CertReading.{cert_of}
use Rattle.bound_cert.specs.Valid.{IsValid}
use Rattle.bound_cert.specs.Bound.{IsBound}
use Rattle.bound_cert.specs.Floors.{IsHopFloor, IsShareFloor}
use Rattle.cert_checker.specs.declared.steep.Steep.{Steep}
use Rattle.cert_checker.specs.Steep.{IsFirstSteep}
use Rattle.cert_checker.specs.Answer.{IsLowerBound}
use Rattle.tdm_cli.specs.declared.status.Status.{Status}
use Rattle.tdm_cli.specs.declared.status.Status.TheVariants as status
use Rattle.tdm_cli.specs.Baseline.{most_uses}
use Rattle.tdm_cli.specs.Routing.{IsBaselineValue}
use Rattle.tdm_cli.specs.Improved.{MeetsBaselineRounds}
use Rattle.tdm_cli.specs.Words.{usual_rounds}
use Rattle.tdm_cli.specs.Reports.{route_report, size_report, demo_report, bound_report, steep_report, verdict_report}
use Rattle.tdm_cli.specs.Request.{Request, route, eval, check, gen, demo}

-- the file of this name is there and is the text of this board
abbrev pub Describes : Files → Name → Board → Type 0
Describes files name board = (bytes : Bytes) × (get files name ≡ Some bytes) × (board_of bytes ≡ Ok board)

-- the file of this name is there and is the text of this solution of the board
abbrev pub Proposes : Files → Name → Board → Routing → Type 0
Proposes files name board routing = (bytes : Bytes) × (get files name ≡ Some bytes)
    × (solution_of board bytes ≡ Ok routing)

-- the file of this name is there and is the text of this certificate for the board
abbrev pub Certifies : Files → Name → Board → Cert → Type 0
Certifies files name board cert = (bytes : Bytes) × (get files name ≡ Some bytes)
    × (cert_of board bytes ≡ Ok cert)

-- a legal and tight solution with minimal trees, of at most the baseline's value, is written to one file, and
-- a valid certificate, whose bound is at least both floors, to another; unless the value is 0, some list of
-- so many rounds has no smaller value and no larger bound; both texts read back, and value and bound are said
-- in such a report
pub record IsWritten (board : Board) (files : Files) (solution cert : Name) (count : ℕ)
    (report : (value bound : ℕ) → Bytes) (before after : Seen) : Type 0 where
  pub routing : Routing
  pub legal : IsLegal board routing
  pub minimal : (n : ℕ) → n < length board.nets
      → IsMinimalTree board (wires_of (uses_of routing n)) (terminals_of board n)
  pub few : sum_by length routing ≤ most_uses
  pub tight : IsTight board routing
  pub no_worse : (value : ℕ) → IsBaselineValue board value → value_of board routing ≤ value
  pub proof : Cert
  pub valid : IsValid board proof
  pub bound : ℕ
  pub is_bound : IsBound board proof bound
  pub lower : IsLowerBound board bound
  pub hop_floor : (floor : ℕ) → IsHopFloor board floor → floor ≤ bound
  pub share_floor : (floor : ℕ) → IsShareFloor board floor → floor ≤ bound
  pub rounds : 0 < value_of board routing → MeetsBaselineRounds board count (value_of board routing) bound
  pub written : files_of after
      ≡ Some (with_file cert (cert_text proof) (with_file solution (solution_text routing) files))
  pub reads_back : solution_of board (solution_text routing) ≡ Ok routing
  pub cert_reads_back : cert_of board (cert_text proof) ≡ Ok proof
  pub told : said_of after
      ≡ option_map (λ s. s ++ report (value_of board routing) bound) (said_of before)

-- the same of the board that one file describes
pub record IsRouted (files : Files) (name solution cert : Name) (count : ℕ)
    (before after : Seen) : Type 0 where
  pub board : Board
  pub described : Describes files name board
  pub routed : IsWritten board files solution cert count route_report before after

-- the board of these numbers is written, reads back, and how large it is, is said
pub record IsGenerated (files : Files) (fpgas nets groups : ℕ) (name : Name)
    (before after : Seen) : Type 0 where
  pub written : files_of after ≡ Some (with_file name (board_text (generated fpgas nets groups)) files)
  pub reads_back : board_of (board_text (generated fpgas nets groups)) ≡ Ok (generated fpgas nets groups)
  pub told : said_of after ≡ option_map (λ s. s ++ size_report (generated fpgas nets groups)) (said_of before)

-- the verdict on the solution in one file of the board in the other is right and is said, and no file is
-- changed
pub record IsJudged (files : Files) (name solution : Name) (before after : Seen)
    (verdict : Verdict) : Type 0 where
  pub board : Board
  pub described : Describes files name board
  pub routing : Routing
  pub proposed : Proposes files solution board routing
  pub right : IsVerdict board routing verdict
  pub kept : files_of after ≡ Some files
  pub told : said_of after ≡ option_map (λ s. s ++ verdict_report verdict) (said_of before)

-- the certificate in one file is valid for the board in the other and its bound is said, no legal solution's
-- value is below the bound, and no file is changed
pub record IsBounded (files : Files) (name cert : Name) (before after : Seen) : Type 0 where
  pub board : Board
  pub described : Describes files name board
  pub certificate : Cert
  pub certified : Certifies files cert board certificate
  pub valid : IsValid board certificate
  pub bound : ℕ
  pub is_bound : IsBound board certificate bound
  pub lower : IsLowerBound board bound
  pub kept : files_of after ≡ Some files
  pub told : said_of after ≡ option_map (λ s. s ++ bound_report bound) (said_of before)

-- the certificate in one file is not valid for the board in the other and its first steep pair is said, and
-- no file is changed
pub record IsRejected (files : Files) (name cert : Name) (before after : Seen) : Type 0 where
  pub board : Board
  pub described : Describes files name board
  pub certificate : Cert
  pub certified : Certifies files cert board certificate
  pub pair : Steep
  pub first : IsFirstSteep board certificate pair
  pub kept : files_of after ≡ Some files
  pub told : said_of after ≡ option_map (λ s. s ++ steep_report pair) (said_of before)

-- what the end of a run with this status is worth
abbrev pub IsWorth : Request → Files → Seen → Seen → Status → Type 0
IsWorth (route board solution cert rounds) files before after status.Ok =
    IsRouted files board solution cert rounds before after
IsWorth (eval board solution) files before after status.Ok =
    (value : ℕ) × IsJudged files board solution before after (Legal value)
IsWorth (eval board solution) files before after status.Illegal = (verdict : Verdict)
    × ¬ SaysLegal verdict × IsJudged files board solution before after verdict
IsWorth (check board cert) files before after status.Ok = IsBounded files board cert before after
IsWorth (check board cert) files before after status.CertRejected = IsRejected files board cert before after
IsWorth (gen fpgas nets groups board) files before after status.Ok =
    IsGenerated files fpgas nets groups board before after
IsWorth (demo fpgas nets groups solution cert) files before after status.Ok =
    IsWritten (generated fpgas nets groups) files solution cert usual_rounds
    (demo_report (generated fpgas nets groups)) before after
IsWorth request files before after answer = Unit {0}

-- no legal solution of a board has a value below the bound of a valid certificate for it, where the texts of
-- both are accepted, whoever made them
abbrev pub BoundsHold : Type 0
BoundsHold = (board_text cert_text : Bytes) (board : Board) (cert : Cert) (bound : ℕ)
    → board_of board_text ≡ Ok board → cert_of board cert_text ≡ Ok cert → IsValid board cert
    → IsBound board cert bound → IsLowerBound board bound
