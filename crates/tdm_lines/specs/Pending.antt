-- What is known of a text that has come so far, whatever comes next.
use Rattle.std.specs.Prelude.{◌≡◌, ℕ, if◌then◌else◌, List, [], ◌∷◌, Option, Some, None, Result, Ok, Err}
use Rattle.std.specs.List.{list_all}
use Rattle.tdm_lines.specs.Lines.{TokenFault, BadNumber, NumberTooLarge, line_after}
use Rattle.tdm_lines.specs.Scan.{is_token_byte, reading_of}
use Rattle.tdm_lines.specs.declared.pushed.TokenEnd.{TokenEnd}
use Rattle.tdm_lines.specs.declared.pushed.TokenEnd.TheVariants.{Number, Bad, Large}

-- the bytes after the last blank and the last line feed: a token that may still go on, or nothing
abbrev pub unfinished : List ℕ → List ℕ
unfinished [] = []
unfinished (byte ∷ more) = if list_all is_token_byte (byte ∷ more) then byte ∷ more else unfinished more

-- a token is a number that fits, or no number, or a number above the largest
abbrev pub end_of : Result ℕ TokenFault → TokenEnd
end_of (Ok number) = Number number
end_of (Err BadNumber) = Bad
end_of (Err NumberTooLarge) = Large

-- what a token that ends here is, where there is one
abbrev pub ending : ℕ → List ℕ → Option TokenEnd
ending max [] = None
ending max (byte ∷ more) = Some (end_of (reading_of max (byte ∷ more)))

-- what a scan keeps: the largest number, the line, and what the unfinished token is if it ends here
pub record Scanned : Type 0 where
  pub max : ℕ
  pub line : ℕ
  pub pending : Option TokenEnd

-- the scan is at the end of the text
pub record StandsFor (scan : Scanned) (text : List ℕ) : Type 0 where
  pub line : scan.line ≡ line_after text
  pub pending : scan.pending ≡ ending scan.max (unfinished text)

-- the reading of the bytes of a token so far
abbrev pub reading_before : Option TokenEnd → Result ℕ TokenFault
reading_before None = Ok 0
reading_before (Some (Number number)) = Ok number
reading_before (Some Bad) = Err BadNumber
reading_before (Some Large) = Err NumberTooLarge
