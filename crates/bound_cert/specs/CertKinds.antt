-- The names of the kinds of refusal.
use Rattle.std.specs.Prelude.{ℕ, List, codes}
use Rattle.tdm_lines.specs.declared.line.TokenFault.{TokenFault}
use Rattle.tdm_lines.specs.declared.line.TokenFault.TheVariants as token
use Rattle.tdm_lines.specs.declared.refusal.Refusal.{Refusal}
use Rattle.tdm_lines.specs.declared.refusal.ReadingFault.{ReadingFault}
use Rattle.bound_cert.specs.declared.refusal.CertTextKind.{CertTextKind}
use Rattle.bound_cert.specs.declared.refusal.CertTextKind.TheVariants.{NoHeader, BadNumber, NumberTooLarge, WrongCount, BadVersion, BadKind, BadUnit, CountLimit, WeightLimit, LengthLimit, UnknownPotential, MissingLine, ExtraLine, TooLong}

-- the name of a kind, as reports print it
abbrev pub name_of : CertTextKind → List ℕ
name_of NoHeader = codes "NoHeader"
name_of BadNumber = codes "BadNumber"
name_of NumberTooLarge = codes "NumberTooLarge"
name_of WrongCount = codes "WrongCount"
name_of BadVersion = codes "BadVersion"
name_of BadKind = codes "BadKind"
name_of BadUnit = codes "BadUnit"
name_of CountLimit = codes "CountLimit"
name_of WeightLimit = codes "WeightLimit"
name_of LengthLimit = codes "LengthLimit"
name_of UnknownPotential = codes "UnknownPotential"
name_of MissingLine = codes "MissingLine"
name_of ExtraLine = codes "ExtraLine"
name_of TooLong = codes "TooLong"

-- the kind of a fault of tokens
abbrev pub of_token : TokenFault → CertTextKind
of_token token.BadNumber = BadNumber
of_token token.NumberTooLarge = NumberTooLarge

-- the first fault of a certificate text
abbrev pub CertRefusal : Type 0
CertRefusal = Refusal CertTextKind

-- why reading a certificate gave none
abbrev pub CertFault : Type 0
CertFault = ReadingFault CertTextKind
