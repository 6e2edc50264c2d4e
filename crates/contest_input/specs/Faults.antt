-- What is wrong with the numbers of one line, by what the line is for. The first test that holds decides.
use Rattle.std.specs.Prelude.{ℕ, ◌==◌, ◌||◌, not, nat_lt, nat_le, if◌then◌else◌, List, length, slice_index, Option, None, Some}
use Rattle.std.specs.List.{list_any}
use Rattle.tdm_lines.specs.declared.line.TokenFault.{TokenFault}
use Rattle.tdm_problem.specs.declared.wire.Wire.{Wire}
use Rattle.tdm_problem.specs.Limits.{most_fpgas, most_wires, most_nets, most_groups, most_listed_fpgas, most_listed_nets}
use Rattle.contest_input.specs.declared.header.Sizes.{Sizes}
use Rattle.contest_input.specs.declared.kind.BoardKind.{BoardKind}
use Rattle.contest_input.specs.Kinds.{of_token}
use Rattle.contest_input.specs.declared.kind.BoardKind.TheVariants.{WrongCount, CountLimit, UnknownFpga, SelfLoop, UnknownNet, TotalLimit}

-- what the numbers of the header say
abbrev pub sizes_of : List ℕ → Sizes
sizes_of numbers = record {
  fpgas = slice_index numbers 0;
  wires = slice_index numbers 1;
  nets = slice_index numbers 2;
  groups = slice_index numbers 3;
}

-- what the numbers of a wire line say
abbrev pub wire_of : List ℕ → Wire
wire_of numbers = record { a = slice_index numbers 0; b = slice_index numbers 1 }

-- a fault of the tokens comes before any fault of the numbers
abbrev pub tokens_first : Option TokenFault → Option BoardKind → Option BoardKind
tokens_first (Some fault) kind = Some (of_token fault)
tokens_first None kind = kind

-- the header: four numbers, each within its limit
abbrev pub header_fault : List ℕ → Option BoardKind
header_fault numbers =
    let sizes = sizes_of numbers in
    if not (length numbers == 4) then Some WrongCount
    else (if nat_lt most_fpgas sizes.fpgas || (nat_lt most_wires sizes.wires
    || (nat_lt most_nets sizes.nets || nat_lt most_groups sizes.groups)) then Some CountLimit
    else None)

-- a wire line: two different FPGAs of the board
abbrev pub wire_fault : ℕ → List ℕ → Option BoardKind
wire_fault fpgas numbers =
    let wire = wire_of numbers in
    if not (length numbers == 2) then Some WrongCount
    else (if nat_le fpgas wire.a || nat_le fpgas wire.b then Some UnknownFpga
    else (if wire.a == wire.b then Some SelfLoop
    else None))

-- a net line: FPGAs of the board, where this and all earlier net lines list so many
abbrev pub net_fault : ℕ → ℕ → List ℕ → Option BoardKind
net_fault fpgas listed numbers =
    if list_any (nat_le fpgas) numbers then Some UnknownFpga
    else (if nat_lt most_listed_fpgas listed then Some TotalLimit
    else None)

-- a group line: nets of the board, where this and all earlier group lines list so many
abbrev pub group_fault : ℕ → ℕ → List ℕ → Option BoardKind
group_fault nets listed numbers =
    if list_any (nat_le nets) numbers then Some UnknownNet
    else (if nat_lt most_listed_nets listed then Some TotalLimit
    else None)
