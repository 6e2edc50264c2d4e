-- What the words of a command line ask for.
use Rattle.std.specs.Prelude.{ℕ, List, [], ◌∷◌, Option, Some, None}
use Rattle.tdm_desk.specs.Files.{Name}
use Rattle.command_run.specs.Inputs.{Input}
use Rattle.tdm_cli.specs.declared.command.Command.{Command}
use Rattle.tdm_cli.specs.declared.command.Command.TheVariants.{Route, Eval, Check, Gen, Demo}
use Rattle.tdm_cli.specs.Words.{IsRoute, IsEval, IsCheck, IsGen, IsDemo, IsCommand}
use Rattle.tdm_cli.specs.Kinds.{board_input, solution_input, cert_input}

-- a command with the names of its files and its numbers, or none
pub data Request : Type 0 where
  route : (board solution cert : Name) (rounds : ℕ) → Request
  eval : (board solution : Name) → Request
  check : (board cert : Name) → Request
  gen : (fpgas nets groups : ℕ) (board : Name) → Request
  demo : (fpgas nets groups : ℕ) (solution cert : Name) → Request
  nothing : Request

-- the words ask for it
abbrev pub Asks : List Name → Request → Type 0
Asks words (route board solution cert rounds) = IsRoute words board solution cert rounds
Asks words (eval board solution) = IsEval words board solution
Asks words (check board cert) = IsCheck words board cert
Asks words (gen fpgas nets groups board) = IsGen words fpgas nets groups board
Asks words (demo fpgas nets groups solution cert) = IsDemo words fpgas nets groups solution cert
Asks words nothing = ¬ IsCommand words

-- what a command that was found asks for, or that none was
abbrev pub request_of : Option Command → Request
request_of (Some (Route board solution cert rounds)) = route board.now solution.now cert.now rounds
request_of (Some (Eval board solution)) = eval board.now solution.now
request_of (Some (Check board cert)) = check board.now cert.now
request_of (Some (Gen fpgas nets groups board)) = gen fpgas nets groups board.now
request_of (Some (Demo fpgas nets groups solution cert)) = demo fpgas nets groups solution.now cert.now
request_of None = nothing

-- its inputs, in order
abbrev pub inputs_of : Request → List Input
inputs_of (route board solution cert rounds) = board_input board ∷ []
inputs_of (eval board solution) = board_input board ∷ solution_input solution ∷ []
inputs_of (check board cert) = board_input board ∷ cert_input cert ∷ []
inputs_of (gen fpgas nets groups board) = []
inputs_of (demo fpgas nets groups solution cert) = []
inputs_of nothing = []

-- the names of its outputs, in order
abbrev pub outputs_of : Request → List Name
outputs_of (route board solution cert rounds) = solution ∷ cert ∷ []
outputs_of (eval board solution) = []
outputs_of (check board cert) = []
outputs_of (gen fpgas nets groups board) = board ∷ []
outputs_of (demo fpgas nets groups solution cert) = solution ∷ cert ∷ []
outputs_of nothing = []
