use Rattle.std.specs.Prelude.{◌≡◌, ◌≢◌, ℕ, ◌<◌, ◌≤◌, List, [], ◌∷◌, length, codes}
use Rattle.tdm_lines.specs.Digits.{digits}
use Rattle.tdm_cli.specs.declared.command.Command.{Command}
use Rattle.board_generator.specs.Generated.{AreSizes}
use Rattle.tdm_cli.specs.declared.command.Command.TheVariants.{Route, Eval, Check, Gen, Demo}

-- the words are this verb and two names, each of at least one byte
pub record NamesTwo (verb : List ℕ) (words : List (List ℕ)) (first second : List ℕ) : Type 0 where
  pub words_are : words ≡ verb ∷ first ∷ second ∷ []
  pub first_named : 0 < length first
  pub second_named : 0 < length second

-- the word is this number in digits, without leading zeros, and the number is at most so large
abbrev pub IsNumber : (most : ℕ) → List ℕ → ℕ → Type 0
IsNumber most word number = (word ≡ digits number) × (number ≤ most)

-- how many rounds are done where the words name no number
abbrev pub usual_rounds : ℕ
usual_rounds = 20

-- the most rounds that words may ask for
abbrev pub most_rounds : ℕ
most_rounds = 1000

-- the words behind the names ask for so many rounds: the usual ones without any, and else one is the number
abbrev pub AskRounds : List (List ℕ) → ℕ → Type 0
AskRounds [] rounds = rounds ≡ usual_rounds
AskRounds (word ∷ []) rounds = IsNumber most_rounds word rounds
AskRounds _ rounds = ⊥

-- the words are `route BOARD SOLUTION CERT`, or these and a number of rounds, each name of at least one byte,
-- and the outputs have two different names
pub record IsRoute (words : List (List ℕ)) (board solution cert : List ℕ) (rounds : ℕ) : Type 0 where
  pub further : List (List ℕ)
  pub words_are : words ≡ codes "route" ∷ board ∷ solution ∷ cert ∷ further
  pub asks : AskRounds further rounds
  pub board_named : 0 < length board
  pub solution_named : 0 < length solution
  pub cert_named : 0 < length cert
  pub apart : solution ≢ cert

-- the words are `eval BOARD SOLUTION`
abbrev pub IsEval : List (List ℕ) → List ℕ → List ℕ → Type 0
IsEval = NamesTwo (codes "eval")

-- the words are `check BOARD CERT`
abbrev pub IsCheck : List (List ℕ) → List ℕ → List ℕ → Type 0
IsCheck = NamesTwo (codes "check")

-- the words ask for no routing of a board
abbrev pub IsNoRoute : List (List ℕ) → Type 0
IsNoRoute words = (board solution cert : List ℕ) (rounds : ℕ) → ¬ IsRoute words board solution cert rounds

-- three words are the numbers of FPGAs, nets and groups of a board that can be generated
pub record AskSizes (fpga_word net_word group_word : List ℕ) (fpgas nets groups : ℕ) : Type 0 where
  pub fpgas_are : fpga_word ≡ digits fpgas
  pub nets_are : net_word ≡ digits nets
  pub groups_are : group_word ≡ digits groups
  pub sizes : AreSizes fpgas nets groups

-- the words are `gen F N G BOARD`
pub record IsGen (words : List (List ℕ)) (fpgas nets groups : ℕ) (board : List ℕ) : Type 0 where
  pub words_are : words ≡ codes "gen" ∷ digits fpgas ∷ digits nets ∷ digits groups ∷ board ∷ []
  pub sizes : AreSizes fpgas nets groups
  pub board_named : 0 < length board

-- the words ask for no board
abbrev pub IsNoGen : List (List ℕ) → Type 0
IsNoGen words = (fpgas nets groups : ℕ) (board : List ℕ) → ¬ IsGen words fpgas nets groups board

-- the words are `demo F N G SOLUTION CERT`, and the outputs have two different names
pub record IsDemo (words : List (List ℕ)) (fpgas nets groups : ℕ) (solution cert : List ℕ) : Type 0 where
  pub words_are : words ≡ codes "demo" ∷ digits fpgas ∷ digits nets ∷ digits groups ∷ solution ∷ cert ∷ []
  pub sizes : AreSizes fpgas nets groups
  pub solution_named : 0 < length solution
  pub cert_named : 0 < length cert
  pub apart : solution ≢ cert

-- the words are one of the lists that the program knows
pub data IsCommand (words : List (List ℕ)) : Type 0 where
  is_route : (board solution cert : List ℕ) (rounds : ℕ) → IsRoute words board solution cert rounds
      → IsCommand words
  is_eval : (board solution : List ℕ) → IsEval words board solution → IsCommand words
  is_check : (board cert : List ℕ) → IsCheck words board cert → IsCommand words
  is_gen : (fpgas nets groups : ℕ) (board : List ℕ) → IsGen words fpgas nets groups board → IsCommand words
  is_demo : (fpgas nets groups : ℕ) (solution cert : List ℕ) → IsDemo words fpgas nets groups solution cert
      → IsCommand words

-- the command is the one that the words ask for
abbrev pub RequestIs : List (List ℕ) → Command → Type 0
RequestIs words (Route board solution cert rounds) = IsRoute words board.now solution.now cert.now rounds
RequestIs words (Eval board solution) = IsEval words board.now solution.now
RequestIs words (Check board cert) = IsCheck words board.now cert.now
RequestIs words (Gen fpgas nets groups board) = IsGen words fpgas nets groups board.now
RequestIs words (Demo fpgas nets groups solution cert) = IsDemo words fpgas nets groups solution.now cert.now
