-- Lower bounds of walks from a table: why they are true.
use Rattle.std.proofs.Common.{◌≡◌, ◌≢◌, ℕ, zero, suc, ◌+◌, ◌-◌, ◌*◌, ◌/◌, ◌^◌, ◌<◌, ◌≤◌, Bool, List, [], ◌∷◌, length, get_or, set, get_or-set_same, get_or-set_other, take, sym, ap, ◌∙◌, subst, ⊎_elim, arith}
use Rattle.std.specs.Prelude.{slice_index, reverse, replicate, Contains, Option, Some, None, MatchOption}
use Rattle.std.proofs.Math.Nat.{div-le_of_le-mul, mul-le-mul_right, mul-le-mul_left}
use Rattle.std.proofs.lemmas.Bool.{cases_eq, cases_lt}
use Rattle.std.proofs.lemmas.List.{get_or-replicate, length-replicate, get_or_past, take_more}
use Rattle.std.proofs.lemmas.List.Elements.{Contains-push_cases}
use Rattle.std.proofs.lemmas.List.Sums.{sum_by-le-sum_by}
use Rattle.std.proofs.lemmas.List.Sorted.{sum_by-IsPermutation, IsPermutation-reverse}
use Rattle.tdm_problem.specs.Board.{Board}
use Rattle.tdm_problem.specs.Distance.{IsDistance, length_of}
use Rattle.tdm_problem.specs.Walk.{IsWalk, AnyWire}
use Rattle.tdm_problem.proofs.LoadLaws.{sum_by-times}
use Rattle.tdm_problem.proofs.Walks.{IsWalk-reverse}
use Rattle.shortest_forest.specs.Reach.{HasNoWalk}
use Rattle.shortest_forest.specs.Arcs.{IsGoal}
use Rattle.steiner_build.proofs.TakingLaws.{links-inside}
use Rattle.ripup_reroute.specs.declared.table.Table.{Table}
use Rattle.ripup_reroute.specs.Bounds.{IsTable, IsScaled, AreBelowWalks, entry_of, row_entry, bound_at, tabled_length}
use Rattle.ripup_reroute.specs.Ways.{AreWays, IsAmong, entry_at, least_entry, least-at}

-- ---- the bounds of a table

-- a walk is at least so many 4096ths as long as it was
scaled-walk : (f g : ℕ → ℕ) (scale : ℕ) (es : List ℕ) → ((e : ℕ) → f e * scale ≤ 4096 * g e)
    → length_of f es * scale ≤ 4096 * length_of g es
scaled-walk f g scale es scaled =
    let less : length_of (λ e. scale * f e) es ≤ length_of (λ e. 4096 * g e) es =
    sum_by-le-sum_by (λ e. scale * f e) (λ e. 4096 * g e) es (λ e. omega (arith, scaled e)) in
    omega (arith, less, sum_by-times scale f es, sum_by-times 4096 g es)

-- where a walk ends on the board, it begins there
walk-inside : (board : Board) (table : Table) → IsTable board table → (f : ℕ) (es : List ℕ) (t : ℕ)
    → t < board.fpgas → IsWalk board (AnyWire board) f es t → f < board.fpgas
walk-inside board table is f [] t there walk = omega (arith, walk, there)
walk-inside board table is f (e ∷ es) t there walk = links-inside board is.inside e f walk.1.0 walk.1.1

module _ (board : Board) (table : Table) (scale : ℕ) (wire_length : ℕ → ℕ) (is : IsTable board table)
    (scaled : IsScaled table scale wire_length) where
  -- the bound of two FPGAs is at most each walk between them
  pub bound-below : (t f : ℕ) (es : List ℕ) → t < board.fpgas → IsWalk board (AnyWire board) f es t
      → bound_at table scale t f ≤ length_of wire_length es
  bound-below t f es there walk =
      let back : entry_of table.distances.items board.fpgas t f ≤ length_of (tabled_length table)
      (reverse es) =
      is.below t f (reverse es) there (walk-inside board table is f es t there walk)
      (IsWalk-reverse board (AnyWire board) f es t walk) in
      let entry : entry_of table.distances.items table.fpgas t f ≤ length_of (tabled_length table) es =
      omega (
        arith,
        back,
        sum_by-IsPermutation (tabled_length table) es (reverse es)
            (IsPermutation-reverse es),
        ap (λ (n : ℕ). entry_of table.distances.items n t f) is.fpgas,
      ) in
      div-le_of_le-mul 4096 (
      omega (
        arith,
        mul-le-mul_right scale entry,
        scaled-walk (tabled_length table) wire_length scale es scaled,
      ))

-- ---- the least of some entries

module _ (table : Table) (f : ℕ) where
  least-small : (fpgas : List ℕ) (n : ℕ) → least_entry table fpgas f n ≤ 2 ^ 51
  least-small fpgas zero = omega arith
  least-small fpgas (suc n) = omega (arith, least-small fpgas n)

  -- the least rises where fewer are listed
  least-rises : (old : List ℕ) (n : ℕ) (new : List ℕ) (k : ℕ)
      → ((i : ℕ) → i < k → IsAmong old n (slice_index new i))
      → least_entry table old f n ≤ least_entry table new f k
  least-rises old n new zero within = least-small old n
  least-rises old n new (suc k) within =
      let last = within k (omega arith) in
      omega (
        arith,
        least-rises old n new k (λ i below. within i (omega (arith, below))),
        least-at table old f n last.0 last.1,
        ap (λ (t : ℕ). entry_at table t f) last.2,
      )

-- ---- the terminals that are left

-- one of those that are left gives its place to the last of them
left-within : (fpgas : List ℕ) (left i : ℕ) → i < left → left ≤ length fpgas → (k : ℕ) → k < left - 1
    → IsAmong fpgas left (slice_index (set fpgas i (slice_index fpgas (left - 1))) k)
left-within fpgas left i below all k within =
    ⊎_elim
    (λ (same : k ≡ i). (
      left - 1,
      omega (arith, below),
      sym (ap (λ (x : ℕ). slice_index (set fpgas i (slice_index fpgas (left - 1))) x) same
          ∙ get_or-set_same fpgas i (slice_index fpgas (left - 1)) 0 (omega (arith, below, all))),
    ))
    (λ (other : k ≢ i). (
      k,
      omega (arith, within),
      sym (get_or-set_other fpgas i k (slice_index fpgas (left - 1)) 0 other),
    ))
    (cases_eq k i)

-- what is left but that one is left then
left-still : (fpgas : List ℕ) (left i : ℕ) → i < left → left ≤ length fpgas → (t : ℕ)
    → t ≢ slice_index fpgas i → IsAmong fpgas left t
    → IsAmong (set fpgas i (slice_index fpgas (left - 1))) (left - 1) t
left-still fpgas left i below all t other among =
    let apart : among.0 ≢ i = λ same. other (sym among.2 ∙ ap (slice_index fpgas) same) in
    ⊎_elim
    (λ (last : among.0 ≡ left - 1). (
      i,
      omega (arith, apart, last, below),
      get_or-set_same fpgas i (slice_index fpgas (left - 1)) 0 (omega (arith, below, all))
          ∙ sym (ap (slice_index fpgas) last) ∙ among.2,
    ))
    (λ (earlier : among.0 ≢ left - 1). (
      among.0,
      omega (arith, earlier, among.1),
      get_or-set_other fpgas i among.0 (slice_index fpgas (left - 1)) 0 apart ∙ among.2,
    ))
    (cases_eq among.0 (left - 1))

-- bounds rise where one that is joined is left no more
pub ways-rise : (table : Table) (scale : ℕ) (fpgas : List ℕ) (left i : ℕ) → i < left → left ≤ length fpgas
    → (f : ℕ) → least_entry table fpgas f left * scale / 4096
    ≤ least_entry table (set fpgas i (slice_index fpgas (left - 1))) f (left - 1) * scale / 4096
ways-rise table scale fpgas left i below all f =
    omega (
      arith,
      mul-le-mul_right scale
          (least-rises table f fpgas left (set fpgas i (slice_index fpgas (left - 1))) (left - 1)
          (left-within fpgas left i below all)),
    )

-- they are true then
pub ways-left : (board : Board) (wire_length : ℕ → ℕ) (old new : List Bool) (table : Table) (scale : ℕ)
    (fpgas : List ℕ) (left i : ℕ) → i < left → left ≤ length fpgas
    → AreWays board wire_length old table scale fpgas left
    → ((g : ℕ) → IsGoal new g → IsGoal old g × (g ≢ slice_index fpgas i))
    → AreWays board wire_length new table scale (set fpgas i (slice_index fpgas (left - 1))) (left - 1)
ways-left board wire_length old new table scale fpgas left i below all ways fewer = record {
  among = λ g marked. let was = fewer g marked in
      left-still fpgas left i below all g was.1 (ways.among g was.0);
  long = λ t f es among walk.
      let before = left-within fpgas left i below all among.0 among.1 in
      ways.long t f es (before.0, before.1, before.2 ∙ among.2) walk;
}

-- ---- a table that is made

-- an entry is at most each walk from the root of its row
row-below : (board : Board) (wire_length : ℕ → ℕ) (root f : ℕ) (es : List ℕ) (distance : Option ℕ)
    → MatchOption distance (HasNoWalk board root f) (IsDistance board wire_length root f)
    → IsWalk board (AnyWire board) root es f → row_entry distance ≤ length_of wire_length es
row-below board wire_length root f es None none walk = absurd (none es walk)
row-below board wire_length root f es (Some d) is walk = omega (arith, is.least es walk)

-- the rows of the first FPGAs are written
abbrev pub AreRowsBelow : Board → (wire_length : ℕ → ℕ) → (rows : ℕ) → (distances : List ℕ) → Type 0
AreRowsBelow board wire_length rows distances = (a b : ℕ) (es : List ℕ) → a < rows → b < board.fpgas
    → IsWalk board (AnyWire board) a es b → entry_of distances board.fpgas a b ≤ length_of wire_length es

pub rows-none : (board : Board) (wire_length : ℕ → ℕ) (distances : List ℕ)
    → AreRowsBelow board wire_length 0 distances
rows-none board wire_length distances a b es below = absurd (omega (arith, below))

-- one more row is written
pub rows-more : (board : Board) (wire_length : ℕ → ℕ) (root : ℕ) (old new : List ℕ) (row : ℕ → Option ℕ)
    → AreRowsBelow board wire_length root old
    → ((i : ℕ) → i < root * board.fpgas → slice_index new i ≡ slice_index old i)
    → ((f : ℕ) → f < board.fpgas → slice_index new (root * board.fpgas + f) ≡ row_entry (row f))
    → ((f : ℕ) → f < board.fpgas
    → MatchOption (row f) (HasNoWalk board root f) (IsDistance board wire_length root f))
    → AreRowsBelow board wire_length (root + 1) new
rows-more board wire_length root old new row so_far before written exact a b es below there walk =
    ⊎_elim
    (λ (earlier : a < root).
    let place : a * board.fpgas + b < root * board.fpgas =
    omega (arith, there, mul-le-mul_right {m = a + 1} {n = root} board.fpgas (omega (arith, earlier))) in
    omega (arith, before (a * board.fpgas + b) place, so_far a b es earlier there walk))
    (λ (last : root ≤ a).
    let same : a ≡ root = omega (arith, last, below) in
    let walk' : IsWalk board (AnyWire board) root es b =
    subst (λ (x : ℕ). IsWalk board (AnyWire board) x es b) same walk in
    omega (
      arith,
      ap (λ (x : ℕ). entry_of new board.fpgas x b) same,
      written b there,
      row-below board wire_length root b es (row b) (exact b there) walk',
    ))
    (cases_lt a root)

-- all rows are written
pub rows-all : (board : Board) (wire_length : ℕ → ℕ) (rows : ℕ) (distances : List ℕ) → board.fpgas ≤ rows
    → AreRowsBelow board wire_length rows distances → AreBelowWalks board wire_length distances
rows-all board wire_length rows distances all so_far a b es below = so_far a b es (omega (arith, below, all))

-- zeros read as 0 everywhere
pub zero-read : (n i : ℕ) → slice_index (replicate n 0) i ≡ 0
zero-read n i =
    ⊎_elim
    (λ (inside : i < n). get_or-replicate n i 0 0 inside)
    (λ (past : n ≤ i). get_or_past (replicate n 0) i 0 (omega (
      arith,
      past,
      length-replicate n (let none : ℕ = 0 in none),
    )))
    (cases_lt i n)

-- ---- a scale that falls

-- one wire more asks for a scale
pub scaled-more : (f g : ℕ → ℕ) (wires : List ℕ) (i old scale : ℕ) → i < length wires → scale ≤ old
    → ((e : ℕ) → Contains (take i wires) e → f e * old ≤ 4096 * g e) → f (get_or wires i 0) * scale
    ≤ 4096 * g (get_or wires i 0) → (e : ℕ) → Contains (take (i + 1) wires) e → f e * scale ≤ 4096 * g e
scaled-more f g wires i old scale there least so_far next e among =
    ⊎_elim
    (λ (before : Contains (take i wires) e). omega (arith, mul-le-mul_left (f e) least, so_far e before))
    (λ (last : get_or wires i 0 ≡ e). let P : ℕ → Type 0 = λ x. f x * scale ≤ 4096 * g x in subst P last next)
    (Contains-push_cases (take i wires) (get_or wires i 0) e (let P : List ℕ → Type 0 = λ es. Contains es e in
    subst P (take_more wires i 0 there) among))
