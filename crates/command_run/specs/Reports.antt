-- The lines that a run of any command may say.
use Rattle.std.specs.Prelude.{ℕ, [], ◌∷◌, ◌++◌, codes}
use Rattle.tdm_lines.specs.Digits.{digits}
use Rattle.tdm_desk.specs.Files.{Bytes}

-- words, and a number behind them
abbrev pub counted : Bytes → ℕ → Bytes
counted words number = words ++ digits number

-- a line that ends with a number
abbrev pub numbered : Bytes → ℕ → Bytes
numbered words number = words ++ (digits number ++ 10 ∷ [])

-- a text is refused: what kind of text it is, the kind of the refusal, and the line
abbrev pub refused_report : Bytes → Bytes → ℕ → Bytes
refused_report words kind line = numbered (words ++ (kind ++ codes " line ")) line

-- reading the input at this place failed, counted from 1
abbrev pub read_fault_report : ℕ → Bytes
read_fault_report place = numbered (codes "read fault input ") place

-- the input at this place has no file of its name, counted from 1
abbrev pub no_input_report : ℕ → Bytes
no_input_report place = numbered (codes "no input ") place
