-- The board that three numbers stand for.
use Rattle.std.specs.Prelude.{ℕ, ◌+◌, ◌*◌, ◌/◌, ◌%◌, ◌≤◌, List, [], ◌∷◌, ◌++◌, map}
use Rattle.std.specs.List.{range_with_len}
use Rattle.tdm_problem.specs.declared.wire.Wire.{Wire}
use Rattle.tdm_problem.specs.Board.{Board, without_repeats}
use Rattle.tdm_problem.specs.Limits.{most_fpgas, most_nets, most_groups}

-- how many FPGAs, nets and groups there may be
pub record AreSizes (f n g : ℕ) : Type 0 where
  pub some_fpgas : 2 ≤ f
  pub few_fpgas : f ≤ most_fpgas
  pub some_nets : 1 ≤ n
  pub few_nets : n ≤ most_nets
  pub few_groups : g ≤ most_groups

-- of f FPGAs in a ring, the wire from FPGA i to the one so many steps on
abbrev pub wire_over : (f step i : ℕ) → Wire
wire_over f step i = record { a = i; b = (i + step) % f }

-- net i on f FPGAs
abbrev pub net_of : (f i : ℕ) → List ℕ
net_of f i = without_repeats (7 * i % f ∷ (11 * i + 3) % f ∷ (13 * i + 5) % f ∷ [])

-- group j of n nets
abbrev pub group_of : (n j : ℕ) → List ℕ
group_of n j = without_repeats (j % n ∷ (3 * j + 1) % n ∷ (5 * j + 2) % n ∷ [])

-- f FPGAs, each with a wire to the next one and, behind all these, one to the FPGA half around the ring; n
-- nets and g groups
abbrev pub generated : (f n g : ℕ) → Board
generated f n g = record {
  fpgas = f;
  wires = map (wire_over f 1) (range_with_len 0 f) ++ map (wire_over f (f / 2)) (range_with_len 0 f);
  nets = map (net_of f) (range_with_len 0 n);
  groups = map (group_of n) (range_with_len 0 g);
}
