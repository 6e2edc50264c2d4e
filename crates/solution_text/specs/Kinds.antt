-- The names of the kinds of refusal.
use Rattle.std.specs.Prelude.{ℕ, List, codes}
use Rattle.tdm_lines.specs.declared.line.TokenFault.{TokenFault}
use Rattle.tdm_lines.specs.declared.line.TokenFault.TheVariants as token
use Rattle.tdm_lines.specs.declared.refusal.Refusal.{Refusal}
use Rattle.solution_text.specs.declared.refusal.SolutionKind.{SolutionKind}
use Rattle.solution_text.specs.declared.refusal.SolutionKind.TheVariants.{BadNumber, NumberTooLarge, WrongCount, UnknownWire, RepeatedWire, MissingLine, ExtraLine, TooLong}

-- the name of a kind, as reports print it
abbrev pub name_of : SolutionKind → List ℕ
name_of BadNumber = codes "BadNumber"
name_of NumberTooLarge = codes "NumberTooLarge"
name_of WrongCount = codes "WrongCount"
name_of UnknownWire = codes "UnknownWire"
name_of RepeatedWire = codes "RepeatedWire"
name_of MissingLine = codes "MissingLine"
name_of ExtraLine = codes "ExtraLine"
name_of TooLong = codes "TooLong"

-- the kind of a fault of tokens
abbrev pub of_token : TokenFault → SolutionKind
of_token token.BadNumber = BadNumber
of_token token.NumberTooLarge = NumberTooLarge

-- the first fault of a solution text
abbrev pub SolutionRefusal : Type 0
SolutionRefusal = Refusal SolutionKind
