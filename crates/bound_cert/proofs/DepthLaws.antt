-- The depth of a net is the largest value at its FPGAs of its source's potential of hops.
use Rattle.std.proofs.Common.{◌≡◌, ℕ, ◌<◌, ◌≤◌, List, [], length, map, sym, ap, ◌∙◌, subst, inl, inr, arith}
use Rattle.std.specs.Prelude.{All, Contains}
use Rattle.std.proofs.lemmas.List.Elements.{Contains-get_or, All-contains, All-get_or}
use Rattle.tdm_problem.specs.Board.{Board, IsBoard, IsRowBelow}
use Rattle.tdm_problem.specs.Distance.{IsDistance}
use Rattle.tdm_problem.specs.Legal.{terminals_of, source_of}
use Rattle.tdm_problem.specs.Walk.{IsWalk, AnyWire, IsConnectable}
use Rattle.tdm_problem.specs.Value.{largest}
use Rattle.bound_cert.specs.Certificate.{value_at}
use Rattle.bound_cert.specs.Depths.{IsDepth, IsDepthOver}
use Rattle.bound_cert.specs.Makers.{IsSourceValue, IsSourcePotential}
use Rattle.bound_cert.proofs.Largest.{largest-above, largest-within, largest-reached}

-- the FPGAs of a net are a row of the board's
pub terminals_row : (board : Board) (n : ℕ) → IsBoard board → n < length board.nets
    → IsRowBelow board.fpgas (terminals_of board n)
terminals_row board n is there = All-get_or (IsRowBelow board.fpgas) board.nets n [] there is.nets

-- the source of a net is one of its FPGAs
pub source_in : (board : Board) (n : ℕ) → IsRowBelow board.fpgas (terminals_of board n)
    → Contains (terminals_of board n) (source_of board n)
source_in board n row = Contains-get_or (terminals_of board n) 0 0 row.some

-- at an FPGA where a walk leads the value is the distance
distance_where_walk : (board : Board) (wire_length : ℕ → ℕ) (source f value : ℕ)
    → IsSourceValue board wire_length source f value
    → (es : List ℕ) × IsWalk board (AnyWire board) source es f → IsDistance board wire_length source f value
distance_where_walk board wire_length source f value (inl distance) walk = distance
distance_where_walk board wire_length source f value (inr none) walk = absurd (none.0 walk.0 walk.1)

module _ (board : Board) (wire_length : ℕ → ℕ) (n : ℕ) (row : IsRowBelow board.fpgas (terminals_of board n))
    (potential : List ℕ)
    (from_source : IsSourcePotential board wire_length (source_of board n) potential) where
  -- the value at each FPGA of the net is its distance from the source
  distance_at_terminal : IsConnectable board (terminals_of board n) → (f : ℕ)
      → Contains (terminals_of board n) f
      → IsDistance board wire_length (source_of board n) f (value_at potential f)
  distance_at_terminal joins f inside =
      distance_where_walk board wire_length (source_of board n) f (value_at potential f)
      (from_source.values f (All-contains (λ x. x < board.fpgas) (terminals_of board n) f row.below inside))
      (joins (source_of board n) f (source_in board n row) inside)

  pub IsDepthOver-from_values : IsConnectable board (terminals_of board n)
      → IsDepthOver board wire_length n (largest (map (value_at potential) (terminals_of board n)))
  IsDepthOver-from_values joins =
      let last = largest-reached (value_at potential) (terminals_of board n) row.some in
      record {
        within = λ f inside. (
          value_at potential f,
          distance_at_terminal joins f inside,
          largest-above (value_at potential) (terminals_of board n) f inside,
        );
        reached = (
          last.0,
          last.1,
          subst (λ (h : ℕ). IsDistance board wire_length (source_of board n) last.0 h) last.2
              (distance_at_terminal joins last.0 last.1),
        );
      }

  -- the depth is no more than all values are
  pub depth_within : (most : ℕ) → All (λ v. v ≤ most) potential
      → largest (map (value_at potential) (terminals_of board n)) ≤ most
  depth_within most small =
      largest-within (value_at potential) (terminals_of board n) most
      (λ f inside. small f 0 (omega (
        arith,
        from_source.count,
        All-contains (λ x. x < board.fpgas) (terminals_of board n) f row.below inside,
      )))

-- what is read as the largest value at the FPGAs of a net is its depth, and no more than all values are
pub record IsDepthOf (board : Board) (n depth : ℕ) (values : List ℕ) : Type 0 where
  pub is : IsDepth board n depth
  pub within : (most : ℕ) → All (λ v. v ≤ most) values → depth ≤ most

pub depth_read : (board : Board) (n h : ℕ) (values fpgas : List ℕ) → IsBoard board → n < length board.nets
    → IsConnectable board (terminals_of board n) → IsSourcePotential board (λ _. 1) (source_of board n) values
    → terminals_of board n ≡ fpgas → h ≡ largest (map (value_at values) fpgas) → IsDepthOf board n h values
depth_read board n h values fpgas is there joins hops net read =
    let row = terminals_row board n is there in
    let depth_is : largest (map (value_at values) (terminals_of board n)) ≡ h =
    ap (λ (fs : List ℕ). largest (map (value_at values) fs)) net ∙ sym read in
    subst (λ (depth : ℕ). IsDepthOf board n depth values) depth_is
    (record {
      is = IsDepthOver-from_values board (λ _. 1) n row values hops joins;
      within = depth_within board (λ _. 1) n row values hops;
    })
