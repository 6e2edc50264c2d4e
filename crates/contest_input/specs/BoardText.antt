-- What a board text says: a board, or the first thing that is wrong with it.
use Rattle.std.specs.Prelude.{ℕ, ◌+◌, ◌-◌, ◌^◌, nat_lt, if◌then◌else◌, List, [], ◌∷◌, ◌++◌, map, length, take, drop, Option, None, Some, Result, Ok, Err}
use Rattle.tdm_lines.specs.Lines.{Line, lines, line_after}
use Rattle.tdm_problem.specs.Board.{Board, without_repeats}
use Rattle.tdm_problem.specs.declared.wire.Wire.{Wire}
use Rattle.contest_input.specs.declared.header.Sizes.{Sizes}
use Rattle.contest_input.specs.declared.kind.BoardKind.{BoardKind}
use Rattle.contest_input.specs.declared.kind.BoardKind.TheVariants.{NoHeader, MissingLine, ExtraLine, TooLong}
use Rattle.contest_input.specs.Kinds.{BoardRefusal}
use Rattle.contest_input.specs.Faults.{sizes_of, wire_of, tokens_first, header_fault, wire_fault, net_fault, group_fault}

-- the largest number of a board text
abbrev pub largest_number : ℕ
largest_number = 2 ^ 32 - 1

-- the most bytes of a board text
abbrev pub most_bytes : ℕ
most_bytes = 2 ^ 28

-- the lines below the header, by what they are for
pub record Body : Type 0 where
  pub wires : List Line
  pub nets : List Line
  pub groups : List Line
  pub extra : List Line

-- a line is for what its place says
abbrev pub body_of : Sizes → List Line → Body
body_of sizes below = record {
  wires = take sizes.wires below;
  nets = take sizes.nets (drop sizes.wires below);
  groups = take sizes.groups (drop (sizes.wires + sizes.nets) below);
  extra = drop (sizes.wires + sizes.nets + sizes.groups) below;
}

-- the refusal of line n for this fault, if there is one
abbrev pub refused_at : ℕ → Option BoardKind → Option BoardRefusal
refused_at n None = None
refused_at n (Some kind) = Some (record { kind = kind; line = n })

-- the lines of one role, each judged: by its tokens, then by its numbers and by how many numbers it and the
-- earlier ones have
abbrev pub judged : (ℕ → List ℕ → Option BoardKind) → ℕ → List Line → List (Option BoardRefusal)
judged fault earlier [] = []
judged fault earlier (line ∷ later) =
    let listed = earlier + length line.numbers in
    refused_at line.number (tokens_first line.fault (fault listed line.numbers)) ∷ judged fault listed later

-- a line that is too much, whatever it holds
abbrev pub extra_refusal : Line → Option BoardRefusal
extra_refusal line = refused_at line.number (Some ExtraLine)

-- the judgement of every line, in order; behind a header at fault it does not matter what the lines are for
abbrev pub all_judged : Line → List Line → List (Option BoardRefusal)
all_judged header below =
    let sizes = sizes_of header.numbers in
    let body = body_of sizes below in
    judged (λ _. header_fault) 0 (header ∷ [])
    ++ judged (λ _. wire_fault sizes.fpgas) 0 body.wires
    ++ judged (net_fault sizes.fpgas) 0 body.nets
    ++ judged (group_fault sizes.nets) 0 body.groups
    ++ map extra_refusal body.extra

-- the first refusal among the judgements
abbrev pub first_refusal : List (Option BoardRefusal) → Option BoardRefusal
first_refusal [] = None
first_refusal (None ∷ later) = first_refusal later
first_refusal (Some refusal ∷ later) = Some refusal

-- the wire of a line
abbrev pub wire_row : Line → Wire
wire_row line = wire_of line.numbers

-- the net or group of a line, in which a number counts once, in its first place
abbrev pub listed_row : Line → List ℕ
listed_row line = without_repeats line.numbers

-- the board that a text without fault describes
abbrev pub described : Sizes → Body → Board
described sizes body = record {
  fpgas = sizes.fpgas;
  wires = map wire_row body.wires;
  nets = map listed_row body.nets;
  groups = map listed_row body.groups;
}

-- the refusal where there is one, or else the answer
abbrev pub unless : Option BoardRefusal → Result Board BoardRefusal → Result Board BoardRefusal
unless None answer = answer
unless (Some refusal) answer = Err refusal

-- the board of the text's lines, or the first refusal; end is the line where the text ends
abbrev pub board_of_lines : ℕ → List Line → Result Board BoardRefusal
board_of_lines end [] = Err (record { kind = NoHeader; line = end })
board_of_lines end (header ∷ below) =
    let sizes = sizes_of header.numbers in
    unless (first_refusal (all_judged header below))
    (if nat_lt (length below) (sizes.wires + sizes.nets + sizes.groups)
    then Err (record { kind = MissingLine; line = end })
    else Ok (described sizes (body_of sizes below)))

-- the board that the text describes, or why it is refused
abbrev pub board_of : List ℕ → Result Board BoardRefusal
board_of text =
    if nat_lt most_bytes (length text)
    then Err (record { kind = TooLong; line = 0 })
    else board_of_lines (line_after text) (lines largest_number text)
