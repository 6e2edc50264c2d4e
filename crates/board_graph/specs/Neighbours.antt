use Rattle.std.specs.Prelude.{ℕ, ◌+◌, ◌==◌, List, [], ◌∷◌, ◌++◌, if◌then◌else◌}
use Rattle.tdm_problem.specs.declared.wire.Wire.{Wire}
use Rattle.board_graph.specs.declared.neighbour.Neighbour.{Neighbour}
use Rattle.board_graph.specs.Graph.{Graph}

-- wire e with its other end, if FPGA f is one of its ends
abbrev pub neighbour_by : ℕ → ℕ → Wire → List Neighbour
neighbour_by f e w =
    if w.a == f then record { wire = e; fpga = w.b } ∷ []
    else (if w.b == f then record { wire = e; fpga = w.a } ∷ [] else [])

-- of wires numbered from e on, those with the end f, each with its other end
abbrev pub neighbours_from : ℕ → ℕ → List Wire → List Neighbour
neighbours_from f e [] = []
neighbours_from f e (w ∷ ws) = neighbour_by f e w ++ neighbours_from f (e + 1) ws

-- every wire of the graph at FPGA f with its other end, wires rising
abbrev pub neighbours_of : Graph → ℕ → List Neighbour
neighbours_of graph f = neighbours_from f 0 graph.wires
