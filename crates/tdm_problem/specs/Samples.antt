-- Small boards, on which the definitions are computed.
use Rattle.std.specs.Prelude.{ℕ, zero, suc, List, [], ◌∷◌}
use Rattle.tdm_problem.specs.declared.wire.Wire.{Wire}
use Rattle.tdm_problem.specs.declared.solution.WireUse.{WireUse}
use Rattle.tdm_problem.specs.Board.{Board}
use Rattle.tdm_problem.specs.Routing.{Routing}

-- a wire between two FPGAs
abbrev pub wire : ℕ → ℕ → Wire
wire a b = record { a = a; b = b }

-- a use of wire e with a ratio
abbrev pub use_at : ℕ → ℕ → WireUse
use_at e ratio = record { wire = e; ratio = ratio }

-- two FPGAs, one wire between them, one net on both, and one group of that net
abbrev pub pair : Board
pair = record {
  fpgas = 2;
  wires = wire 0 1 ∷ [];
  nets = (0 ∷ 1 ∷ []) ∷ [];
  groups = (0 ∷ []) ∷ [];
}

-- the same with a second wire
abbrev pub doubled : Board
doubled = record {
  fpgas = 2;
  wires = wire 0 1 ∷ wire 0 1 ∷ [];
  nets = (0 ∷ 1 ∷ []) ∷ [];
  groups = (0 ∷ []) ∷ [];
}

-- two FPGAs, one wire between them, three nets on both, and one group of these
abbrev pub shared : Board
shared = record {
  fpgas = 2;
  wires = wire 0 1 ∷ [];
  nets = (0 ∷ 1 ∷ []) ∷ (0 ∷ 1 ∷ []) ∷ (0 ∷ 1 ∷ []) ∷ [];
  groups = (0 ∷ 1 ∷ 2 ∷ []) ∷ [];
}

-- a middle with three arms, one net on their ends, and one group of that net
abbrev pub star : Board
star = record {
  fpgas = 4;
  wires = wire 0 1 ∷ wire 0 2 ∷ wire 0 3 ∷ [];
  nets = (1 ∷ 2 ∷ 3 ∷ []) ∷ [];
  groups = (0 ∷ []) ∷ [];
}

-- two pairs of FPGAs, each with a wire, and three nets, of which the second alone stays in a pair
abbrev pub split : Board
split = record {
  fpgas = 4;
  wires = wire 0 1 ∷ wire 2 3 ∷ [];
  nets = (0 ∷ 2 ∷ []) ∷ (0 ∷ 1 ∷ []) ∷ (3 ∷ 1 ∷ []) ∷ [];
  groups = [];
}

-- for each ratio a net that uses wire 0 with it
abbrev pub on_wire_0 : List ℕ → Routing
on_wire_0 [] = []
on_wire_0 (ratio ∷ ratios) = (use_at 0 ratio ∷ []) ∷ on_wire_0 ratios

-- three FPGAs in a ring: two short wires, of length 1, and a long one, of length 5, that lead both from 0 to
-- 2
abbrev pub ring : Board
ring = record {
  fpgas = 3;
  wires = wire 0 1 ∷ wire 1 2 ∷ wire 0 2 ∷ [];
  nets = (0 ∷ 2 ∷ []) ∷ [];
  groups = (0 ∷ []) ∷ [];
}

-- the lengths of the ring's wires
abbrev pub ring_length : ℕ → ℕ
ring_length zero = 1
ring_length (suc zero) = 1
ring_length (suc (suc e)) = 5
