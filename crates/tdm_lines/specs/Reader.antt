-- What a reading that is fed in pieces stands for.
use Rattle.std.specs.Prelude.{◌≡◌, ℕ, ◌<◌, ◌≤◌, List, length, false}
use Rattle.tdm_lines.specs.Lines.{Line, lines, line_after}
use Rattle.tdm_lines.specs.SoFar.{Stands}
use Rattle.tdm_lines.specs.declared.reading.Reading.{Reading}
use Rattle.tdm_lines.specs.declared.refusal.ReadingFault.{ReadingFault}
use Rattle.tdm_lines.specs.declared.refusal.ReadingFault.TheVariants.{Refused, NoMemory}

-- the reading is not spent, and was fed this text: whatever comes, the text says what the reading's state
-- says of that
pub record IsFed {G : Type 0} (reads : G → List Line → Type 0) (holds : G → List ℕ → Type 0) (largest : ℕ)
    (reading : Reading G) (text : List ℕ) : Type 0 where
  pub kept : reading.spent ≡ false
  pub max : reading.scan.max ≡ largest
  pub stands : Stands reads holds reading.scan reading.fed reading.fault reading.count reading.grammar text

-- the lines of the text, which is not too long and ends in line `end`, made this state
pub record IsWhole {G : Type 0} (reads : G → List Line → Type 0) (largest most : ℕ) (state : G) (end : ℕ)
    (text : List ℕ) : Type 0 where
  pub short : length text ≤ most
  pub end_is : end ≡ line_after text
  pub read : reads state (lines largest text)

-- the text is refused for its length, or memory was wanting
abbrev pub IsTooLong : {K : Type 0} → (most : ℕ) → K → List ℕ → ReadingFault K → Type 0
IsTooLong most kind text NoMemory = Unit {0}
IsTooLong most kind text (Refused refusal) =
    (most < length text) × (refusal ≡ record { kind = kind; line = 0 })
