-- Where a board text stands: what its lines so far have said, and what the lines that still come make of
-- that.
use Rattle.std.specs.Prelude.{◌≡◌, ℕ, zero, suc, ◌+◌, ◌^◌, ◌<◌, ◌≤◌, List, [], ◌∷◌, ◌++◌, map, take, drop, length, sum_by, nat_le, Option, None, Some, Result, Ok, Err}
use Rattle.std.specs.List.{list_any}
use Rattle.tdm_lines.specs.Lines.{Line}
use Rattle.tdm_problem.specs.Board.{Board, without_repeats}
use Rattle.tdm_problem.specs.Limits.{most_wires, most_nets, most_groups, most_listed_fpgas, most_listed_nets}
use Rattle.contest_input.specs.Kinds.{BoardRefusal}
use Rattle.contest_input.specs.declared.header.Sizes.{Sizes}
use Rattle.contest_input.specs.declared.kind.BoardKind.{BoardKind}
use Rattle.contest_input.specs.declared.kind.BoardKind.TheVariants.{MissingLine, ExtraLine}
use Rattle.contest_input.specs.declared.roles.Role.{Role}
use Rattle.contest_input.specs.declared.roles.Role.TheVariants as role
use Rattle.contest_input.specs.declared.roles.BoardState.{BoardState}
use Rattle.contest_input.specs.Faults.{tokens_first, header_fault, wire_of, wire_fault, net_fault, group_fault}
use Rattle.contest_input.specs.BoardText.{refused_at, first_refusal, extra_refusal, unless, board_of_lines}

-- the first, or else the second
abbrev pub or_else : Option BoardRefusal → Option BoardRefusal → Option BoardRefusal
or_else None second = second
or_else (Some refusal) second = Some refusal

-- what stops the next lines of a section with so many left, where the earlier ones have so many numbers
abbrev pub stop : (ℕ → List ℕ → Option BoardKind) → ℕ → ℕ → ℕ → List Line → Option BoardRefusal
stop fault end earlier zero lines = None
stop fault end earlier (suc left) [] = Some (record { kind = MissingLine; line = end })
stop fault end earlier (suc left) (line ∷ later) =
    let listed = earlier + length line.numbers in
    or_else (refused_at line.number (tokens_first line.fault (fault listed line.numbers)))
    (stop fault end listed left later)

-- what is said of the lines from within a section on, whose lines give rows, by what is said once it is read
abbrev pub in_section : {R : Type 0} → (ℕ → List ℕ → Option BoardKind) → (List ℕ → R)
    → (List R → List Line → Result Board BoardRefusal) → ℕ → ℕ → ℕ → List R → List Line
    → Result Board BoardRefusal
in_section fault row next end left listed rows lines =
    unless (stop fault end listed left lines) (next (rows ++ map (λ line. row line.numbers) (take left lines))
    (drop left lines))

-- past the last line
abbrev pub at_end : Board → List Line → Result Board BoardRefusal
at_end board lines = unless (first_refusal (map extra_refusal lines)) (Ok board)

-- from a group line on
abbrev pub in_groups : Sizes → Board → ℕ → ℕ → ℕ → List Line → Result Board BoardRefusal
in_groups sizes board left listed end lines =
    in_section (group_fault sizes.nets) without_repeats (λ rows. at_end (record board { groups = rows })) end
    left listed board.groups lines

-- from a net line on
abbrev pub in_nets : Sizes → Board → ℕ → ℕ → ℕ → List Line → Result Board BoardRefusal
in_nets sizes board left listed end lines =
    in_section (net_fault sizes.fpgas) without_repeats
    (λ rows. in_groups sizes (record board { nets = rows }) sizes.groups 0 end) end left listed board.nets
    lines

-- from a wire line on
abbrev pub in_wires : Sizes → Board → ℕ → ℕ → List Line → Result Board BoardRefusal
in_wires sizes board left end lines =
    in_section (λ _. wire_fault sizes.fpgas) wire_of
    (λ rows. in_nets sizes (record board { wires = rows }) sizes.nets 0 end) end left 0 board.wires lines

-- what the text says whose lines so far made this state, where these lines are still to come and it ends in
-- line `end`
abbrev pub said_in : Role → Sizes → Board → ℕ → ℕ → ℕ → List Line → Result Board BoardRefusal
said_in role.Header sizes board left listed end lines = board_of_lines end lines
said_in role.Wire sizes board left listed end lines = in_wires sizes board left end lines
said_in role.Net sizes board left listed end lines = in_nets sizes board left listed end lines
said_in role.Group sizes board left listed end lines = in_groups sizes board left listed end lines
said_in role.End sizes board left listed end lines = at_end board lines
said_in (role.Refused refusal) sizes board left listed end lines = Err refusal

-- the lines so far made this state: whatever comes, the text says what the state says of that
abbrev pub Reads : BoardState → List Line → Type 0
Reads state done = (end : ℕ) (more : List Line) → board_of_lines end (done ++ more)
    ≡ said_in state.role state.sizes state.draft state.left state.listed end more

-- one number more than a line without fault can have
abbrev pub room_of : Role → ℕ
room_of role.Header = 5
room_of role.Wire = 3
room_of role.Net = most_listed_fpgas + 1
room_of role.Group = most_listed_nets + 1
room_of role.End = 1
room_of (role.Refused refusal) = 1

-- what is kept of a line with these numbers: all of them where they are fewer than there is room for, and
-- else as many as there is room for, with one that is too large where the line has one
pub record IsKeptOf (room : ℕ) (kept numbers : List ℕ) : Type 0 where
  pub short : length numbers < room → kept ≡ numbers
  pub long : room ≤ length numbers → room ≤ length kept
  pub same : (limit : ℕ) → list_any (nat_le limit) kept ≡ list_any (nat_le limit) numbers

-- the line in progress has these numbers so far
abbrev pub Holds : BoardState → List ℕ → Type 0
Holds state numbers = IsKeptOf (room_of state.role) state.numbers.items numbers

-- what is wrong with the next line, if anything; a refused text has no further fault
abbrev pub line_kind : Role → Sizes → ℕ → Line → Option BoardKind
line_kind role.Header sizes listed line = tokens_first line.fault (header_fault line.numbers)
line_kind role.Wire sizes listed line = tokens_first line.fault (wire_fault sizes.fpgas line.numbers)
line_kind role.Net sizes listed line =
    tokens_first line.fault (net_fault sizes.fpgas (listed + length line.numbers) line.numbers)
line_kind role.Group sizes listed line =
    tokens_first line.fault (group_fault sizes.nets (listed + length line.numbers) line.numbers)
line_kind role.End sizes listed line = Some ExtraLine
line_kind (role.Refused refusal) sizes listed line = None

-- the draft is the board so far, and has room for what is left
pub record IsInWires (sizes : Sizes) (board : Board) (left : ℕ) : Type 0 where
  pub some : 0 < left
  pub fpgas : board.fpgas ≡ sizes.fpgas
  pub room : length board.wires + left ≤ most_wires
  pub nets : sizes.nets ≤ most_nets
  pub groups : sizes.groups ≤ most_groups
  pub no_net : board.nets ≡ []
  pub no_group : board.groups ≡ []

pub record IsInNets (sizes : Sizes) (board : Board) (left listed : ℕ) : Type 0 where
  pub some : 0 < left
  pub fpgas : board.fpgas ≡ sizes.fpgas
  pub room : length board.nets + left ≡ sizes.nets
  pub total : sum_by length board.nets ≤ listed
  pub within : listed ≤ most_listed_fpgas
  pub nets : sizes.nets ≤ most_nets
  pub groups : sizes.groups ≤ most_groups
  pub no_group : board.groups ≡ []

pub record IsInGroups (sizes : Sizes) (board : Board) (left listed : ℕ) : Type 0 where
  pub some : 0 < left
  pub nets : length board.nets ≡ sizes.nets
  pub room : length board.groups + left ≡ sizes.groups
  pub total : sum_by length board.groups ≤ listed
  pub within : listed ≤ most_listed_nets
  pub groups : sizes.groups ≤ most_groups

abbrev pub IsInRole : Role → Sizes → Board → ℕ → ℕ → Type 0
IsInRole role.Header sizes board left listed = Unit {0}
IsInRole role.Wire sizes board left listed = IsInWires sizes board left
IsInRole role.Net sizes board left listed = IsInNets sizes board left listed
IsInRole role.Group sizes board left listed = IsInGroups sizes board left listed
IsInRole role.End sizes board left listed = Unit {0}
IsInRole (role.Refused refusal) sizes board left listed = Unit {0}

-- what holds of each state
pub record IsFine (state : BoardState) : Type 0 where
  pub small : state.listed ≤ 2 ^ 24
  pub fits : IsInRole state.role state.sizes state.draft state.left state.listed
