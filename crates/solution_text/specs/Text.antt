-- The text of a solution.
use Rattle.std.specs.Prelude.{List, [], ◌∷◌, ◌++◌, ℕ, length}
use Rattle.std.specs.List.{flat_map}
use Rattle.tdm_problem.specs.declared.solution.WireUse.{WireUse}
use Rattle.tdm_problem.specs.Routing.{Routing}
use Rattle.tdm_lines.specs.Written.{line_text}

-- a line of two numbers: the wire of a use, and its ratio
abbrev pub use_line : WireUse → List ℕ
use_line u = line_text (u.wire ∷ u.ratio ∷ [])

-- a line of one number, how many uses a net has, and then a line for each use
abbrev pub net_text : List WireUse → List ℕ
net_text uses = line_text (length uses ∷ []) ++ flat_map use_line uses

-- the nets in order
abbrev pub solution_text : Routing → List ℕ
solution_text routing = flat_map net_text routing
