-- The statuses that runs of all commands have in common, and the kinds of text that commands read.
use Rattle.tdm_desk.specs.declared.slots.InSlot.TheVariants.{In0, In1}
use Rattle.tdm_desk.specs.Files.{Name}
use Rattle.tdm_problem.specs.Board.{Board}
use Rattle.tdm_problem.specs.Routing.{Routing}
use Rattle.contest_input.specs.Kinds.{BoardRefusal, name_of as board_fault}
use Rattle.contest_input.specs.BoardText.{board_of, most_bytes as most_board_bytes}
use Rattle.solution_text.specs.Kinds.{SolutionRefusal, name_of as solution_fault}
use Rattle.solution_text.specs.Reading.{solution_of, most_bytes as most_solution_bytes}
use Rattle.bound_cert.specs.CertKinds.{CertRefusal, name_of as cert_fault}
use Rattle.bound_cert.specs.Certificate.{Cert}
use Rattle.bound_cert.specs.CertReading.{cert_of, most_bytes as most_cert_bytes}
use Rattle.command_run.specs.Outcome.{Faults}
use Rattle.command_run.specs.Inputs.{Input, TextKind}
use Rattle.tdm_cli.specs.declared.status.Status.{Status}
use Rattle.tdm_cli.specs.declared.status.Status.TheVariants as status
use Rattle.tdm_cli.specs.Reports.{board_refused_report, solution_refused_report, cert_refused_report}

-- the statuses that runs of all commands have in common
abbrev pub faults : Faults Status
faults = record {
  no_input = status.NoInput;
  read_fault = status.ReadFault;
  write_fault = status.WriteFault;
  out_of_memory = status.OutOfMemory;
}

-- texts of boards
abbrev pub boards : TextKind Status Board BoardRefusal
boards = record {
  says = board_of;
  status = status.BoardRefused;
  report = λ refusal. board_refused_report (board_fault refusal.kind) refusal.line;
}

-- texts of solutions for a board
abbrev pub solutions : Board → TextKind Status Routing SolutionRefusal
solutions board = record {
  says = solution_of board;
  status = status.SolutionRefused;
  report = λ refusal. solution_refused_report (solution_fault refusal.kind) refusal.line;
}

-- texts of certificates for a board
abbrev pub certificates : Board → TextKind Status Cert CertRefusal
certificates board = record {
  says = cert_of board;
  status = status.CertRefused;
  report = λ refusal. cert_refused_report (cert_fault refusal.kind) refusal.line;
}

-- the board is the first input of a command
abbrev pub board_input : Name → Input
board_input name = record { slot = In0; name = name; limit = most_board_bytes }

-- a solution of the board is the second
abbrev pub solution_input : Name → Input
solution_input name = record { slot = In1; name = name; limit = most_solution_bytes }

-- and so is a certificate for it
abbrev pub cert_input : Name → Input
cert_input name = record { slot = In1; name = name; limit = most_cert_bytes }
