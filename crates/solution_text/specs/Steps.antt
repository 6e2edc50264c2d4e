-- How nets and their uses are put together while a text is read.
use Rattle.std.specs.Prelude.{◌≡◌, ℕ, ◌<◌, ◌≤◌, nat_eq, ◌==◌, List, ◌++◌, length, slice_index, Result, Ok, All}
use Rattle.std.specs.List.{list_any, IsDistinct}
use Rattle.tdm_problem.specs.declared.solution.WireUse.{WireUse}
use Rattle.tdm_problem.specs.Routing.{Routing, wires_of}
use Rattle.solution_text.specs.Kinds.{SolutionRefusal}
use Rattle.tdm_lines.specs.Refusals.{◌>>=◌}

-- these nets, and then those that are read
abbrev pub with_nets : Routing → Result Routing SolutionRefusal → Result Routing SolutionRefusal
with_nets routing read = do
  rest ← read
  Ok (routing ++ rest)

-- the wires that bear the stamp are those of the uses, which are all different
pub record Marks (stamps : List ℕ) (stamp : ℕ) (uses : List WireUse) : Type 0 where
  pub no_later : All (λ s. s ≤ stamp) stamps
  pub of_uses : (wire : ℕ) → wire < length stamps → (slice_index stamps wire == stamp)
      ≡ list_any (λ u. u.wire == wire) uses
  pub distinct : IsDistinct nat_eq (wires_of uses)
