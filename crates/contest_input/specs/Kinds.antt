-- The kinds of refusals, by name.
use Rattle.std.specs.Prelude.{ℕ, List, codes}
use Rattle.tdm_lines.specs.declared.line.TokenFault.{TokenFault}
use Rattle.tdm_lines.specs.declared.line.TokenFault.TheVariants as token
use Rattle.tdm_lines.specs.declared.refusal.Refusal.{Refusal}
use Rattle.contest_input.specs.declared.kind.BoardKind.{BoardKind}
use Rattle.contest_input.specs.declared.kind.BoardKind.TheVariants.{NoHeader, BadNumber, NumberTooLarge, WrongCount, CountLimit, UnknownFpga, SelfLoop, UnknownNet, MissingLine, ExtraLine, TotalLimit, TooLong}

-- the bytes of a kind's name
abbrev pub name_of : BoardKind → List ℕ
name_of NoHeader = codes "NoHeader"
name_of BadNumber = codes "BadNumber"
name_of NumberTooLarge = codes "NumberTooLarge"
name_of WrongCount = codes "WrongCount"
name_of CountLimit = codes "CountLimit"
name_of UnknownFpga = codes "UnknownFpga"
name_of SelfLoop = codes "SelfLoop"
name_of UnknownNet = codes "UnknownNet"
name_of MissingLine = codes "MissingLine"
name_of ExtraLine = codes "ExtraLine"
name_of TotalLimit = codes "TotalLimit"
name_of TooLong = codes "TooLong"

-- the kind of a fault of tokens
abbrev pub of_token : TokenFault → BoardKind
of_token token.BadNumber = BadNumber
of_token token.NumberTooLarge = NumberTooLarge

-- the first fault of a board text
abbrev pub BoardRefusal : Type 0
BoardRefusal = Refusal BoardKind
