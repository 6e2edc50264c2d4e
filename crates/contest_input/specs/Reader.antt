-- What a reader of a board text that is fed in pieces stands for.
use Rattle.std.specs.Prelude.{ℕ, List}
use Rattle.tdm_lines.specs.Reader.{IsFed}
use Rattle.tdm_lines.specs.declared.reading.Reading.{Reading}
use Rattle.contest_input.specs.BoardText.{largest_number}
use Rattle.contest_input.specs.declared.roles.BoardState.{BoardState}
use Rattle.contest_input.specs.Roles.{Reads, Holds}

-- the reader is not spent, and was fed this text: whatever comes, the text says what the reader's state says
-- of that
abbrev pub IsAt : Reading BoardState → List ℕ → Type 0
IsAt reader text = IsFed Reads Holds largest_number reader text
