-- A text of lines as far as it has come.
use Rattle.std.specs.Prelude.{◌≡◌, ℕ, ◌+◌, List, [], ◌∷◌, ◌++◌, length, map, Option, Some, None}
use Rattle.tdm_lines.specs.declared.line.TokenFault.{TokenFault}
use Rattle.tdm_lines.specs.Tokens.{value}
use Rattle.tdm_lines.specs.Lines.{Line, lines, lines_from, put_line, pieces, fault_of}
use Rattle.tdm_lines.specs.Scan.{first_tokens, after_first_line}
use Rattle.tdm_lines.specs.Pending.{Scanned, StandsFor, unfinished}

-- line n, whose numbers count where it has no fault
abbrev pub ended_line : ℕ → Option TokenFault → List ℕ → Line
ended_line n None numbers = record { number = n; fault = None; numbers = numbers }
ended_line n (Some fault) numbers = record { number = n; fault = Some fault; numbers = [] }

-- a token, where there is one
abbrev pub token_there : List ℕ → List (List ℕ)
token_there [] = []
token_there (byte ∷ more) = (byte ∷ more) ∷ []

-- whatever comes, the text's lines are those that are done, then line n, which begins with these tokens, and
-- the later ones
abbrev pub IsSoFar : ℕ → ℕ → List ℕ → List Line → List (List ℕ) → Type 0
IsSoFar max n text done toks = (rest : List ℕ) → lines max (text ++ rest)
    ≡ done ++ put_line max n (toks ++ first_tokens (unfinished text ++ rest))
    (lines_from max (n + 1) (pieces (after_first_line (unfinished text ++ rest))))

-- the state is what the lines that are done made of it, and holds these tokens of the line in progress
pub record Keeps {G : Type 0} (reads : G → List Line → Type 0) (holds : G → List ℕ → Type 0)
    (max : ℕ) (fault : Option TokenFault) (count : ℕ) (state : G) (done : List Line)
    (toks : List (List ℕ)) : Type 0 where
  pub count_is : count ≡ length toks
  pub fault_is : fault ≡ fault_of max toks
  pub read : reads state done
  pub held : fault ≡ None → holds state (map value toks)

-- the reading is at the end of this text
pub record Stands {G : Type 0} (reads : G → List Line → Type 0) (holds : G → List ℕ → Type 0)
    (scan : Scanned) (fed : ℕ) (fault : Option TokenFault) (count : ℕ) (state : G)
    (text : List ℕ) : Type 0 where
  pub fed_is : fed ≡ length text
  pub scanned : StandsFor scan text
  pub done : List Line
  pub toks : List (List ℕ)
  pub so_far : IsSoFar scan.max scan.line text done toks
  pub keeps : Keeps reads holds scan.max fault count state done toks
