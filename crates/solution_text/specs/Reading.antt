-- What a text says: the uses of each net of the board, or the first refusal.
use Rattle.std.specs.Prelude.{ℕ, zero, suc, ◌-◌, ◌^◌, ◌==◌, nat_lt, nat_le, if◌then◌else◌, List, [], ◌∷◌, ◌++◌, length, Result, Ok}
use Rattle.std.specs.List.{list_any}
use Rattle.tdm_problem.specs.declared.solution.WireUse.{WireUse}
use Rattle.tdm_problem.specs.Board.{Board}
use Rattle.tdm_problem.specs.Routing.{Routing}
use Rattle.tdm_lines.specs.Lines.{Line, lines, line_after}
use Rattle.tdm_lines.specs.Refusals.{refused, ◌>>=◌, next_line as next_of}
use Rattle.solution_text.specs.declared.refusal.SolutionKind.TheVariants.{WrongCount, UnknownWire, RepeatedWire, MissingLine, ExtraLine, TooLong}
use Rattle.solution_text.specs.Kinds.{SolutionRefusal, of_token}

-- the largest number of a solution text
abbrev pub largest_number : ℕ
largest_number = 2 ^ 32 - 1

-- the most bytes of a solution text
abbrev pub most_bytes : ℕ
most_bytes = 2 ^ 30

-- ---- what a line says

-- the next line and those behind it
abbrev pub next_line : ℕ → List Line → Result (Line × List Line) SolutionRefusal
next_line after lines = next_of of_token after MissingLine lines

-- a count line has one number: how many uses the net has
abbrev pub count_said : ℕ → List ℕ → Result ℕ SolutionRefusal
count_said line (count ∷ []) = Ok count
count_said line numbers = refused WrongCount line

-- a use line has two numbers: a wire of the board that the net has not used on an earlier line, and a ratio
abbrev pub use_said : ℕ → List WireUse → ℕ → List ℕ → Result WireUse SolutionRefusal
use_said wires earlier line (wire ∷ ratio ∷ []) =
    if nat_le wires wire then refused UnknownWire line
    else (if list_any (λ u. u.wire == wire) earlier then refused RepeatedWire line
    else Ok (record { wire = wire; ratio = ratio }))
use_said wires earlier line numbers = refused WrongCount line

-- ---- uses in the order of their wires

-- uses in the order of their wires, and one more
abbrev pub with_use : WireUse → List WireUse → List WireUse
with_use u [] = u ∷ []
with_use u (v ∷ uses) = if nat_lt u.wire v.wire then u ∷ v ∷ uses else v ∷ with_use u uses

-- the uses in the order of their wires
abbrev pub by_wire : List WireUse → List WireUse
by_wire [] = []
by_wire (u ∷ uses) = with_use u (by_wire uses)

-- ---- what the lines say, one after another

module _ (wires after : ℕ) where
  -- the uses of a net, of which so many lines are still to come, and the lines behind them
  abbrev pub uses_from : List WireUse → ℕ → List Line → Result (List WireUse × List Line) SolutionRefusal
  uses_from earlier zero lines = Ok (by_wire earlier, lines)
  uses_from earlier (suc count) lines = do
    next ← next_line after lines
    u ← use_said wires earlier next.0.number next.0.numbers
    uses_from (earlier ++ u ∷ []) count next.1

  -- the uses of the next net, and the lines behind them
  abbrev pub net_from : List Line → Result (List WireUse × List Line) SolutionRefusal
  net_from lines = do
    next ← next_line after lines
    count ← count_said next.0.number next.0.numbers
    uses_from [] count next.1

  -- so many nets, and no line behind them
  abbrev pub nets_from : ℕ → List Line → Result Routing SolutionRefusal
  nets_from zero [] = Ok []
  nets_from zero (line ∷ more) = refused ExtraLine line.number
  nets_from (suc nets) lines = do
    net ← net_from lines
    rest ← nets_from nets net.1
    Ok (net.0 ∷ rest)

-- the uses of each net of the board, wires rising, or the first refusal
abbrev pub solution_of : Board → List ℕ → Result Routing SolutionRefusal
solution_of board text =
    if nat_lt most_bytes (length text) then refused TooLong 0
    else nets_from (length board.wires) (line_after text) (length board.nets) (lines largest_number text)
