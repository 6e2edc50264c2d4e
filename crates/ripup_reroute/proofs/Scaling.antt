-- The scale of a table from turn to turn.
use Rattle.std.proofs.Common.{◌≡◌, ◌≢◌, ◌⊎◌, ℕ, ◌+◌, ◌*◌, ◌<◌, ◌≤◌, Bool, true, false, cond, List, [], length, refl, sym, ap, ◌∙◌, subst, inl, inr, ⊎_elim, arith}
use Rattle.std.specs.Prelude.{slice_index, ◌==◌, Contains}
use Rattle.std.specs.List.{list_any}
use Rattle.std.proofs.Math.Nat.{mul-le-mul_left}
use Rattle.std.proofs.lemmas.Bool.{cases_eq, ne_eqb}
use Rattle.std.proofs.lemmas.List.{set-get_or}
use Rattle.std.proofs.lemmas.List.Folds.{Any-from_list_any}
use Rattle.tdm_problem.specs.Board.{Board}
use Rattle.tdm_problem.specs.Loads.{load_by, load_of, without_net}
use Rattle.tdm_problem.specs.Trees.{tree_of}
use Rattle.tdm_problem.proofs.LoadLaws.{load_of-moved}
use Rattle.ripup_reroute.specs.declared.table.Table.{Table}
use Rattle.ripup_reroute.specs.Bounds.{IsTable, IsTableAt, IsScaled, tabled_length}
use Rattle.ripup_reroute.specs.Working.{AreLoads, IsAdded}

-- a test for equality that holds
same-test : (x e : ℕ) → (x == e) ≡ true → x ≡ e
same-test x e holds = ⊎_elim (λ (same : x ≡ e). same) (λ (other : x ≢ e). absurd (let never : false ≡ true =
    sym (ne_eqb x e other) ∙ holds in cc)) (cases_eq x e)

-- a tree has a wire, or does not load it
tree-or-none : (number : ℕ) (tree : List ℕ) (e : ℕ) → Contains tree e ⊎ (load_by number tree e ≡ 0)
tree-or-none number tree e = by (list_any (λ d. d == e) tree) refl
  where
    by : (found : Bool) → list_any (λ d. d == e) tree ≡ found → Contains tree e ⊎ (load_by number tree e ≡ 0)
    by true is =
        let any = Any-from_list_any (λ d. d == e) tree is in
        inl (subst (Contains tree) (same-test any.1 e any.4) (any.0, any.2, any.3))
    by false is = inr (ap (λ (b : Bool). cond b number 0) is)

-- a lower scale asks for less
lower-scale : (tabled old scale length : ℕ) → scale ≤ old → tabled * old ≤ length → tabled * scale ≤ length
lower-scale tabled old scale length least so_far = omega (arith, mul-le-mul_left tabled least, so_far)

-- the load of a wire, with the net and without
load-split : (trees : List (List ℕ)) (numbers : List ℕ) (n e : ℕ) → n < length trees
    → load_of trees numbers e ≡ load_of (without_net trees n) numbers e + load_by (slice_index numbers n)
    (tree_of trees n) e
load-split trees numbers n e there =
    ap (λ (ts : List (List ℕ)). load_of ts numbers e) (sym (set-get_or trees n []))
    ∙ load_of-moved trees numbers n (tree_of trees n) e there

-- the marginal lengths of a net keep a scale that its own wires keep
pub scaled-turn : (board : Board) (trees : List (List ℕ)) (numbers : List ℕ) (n : ℕ) (loads tree : List ℕ)
    (table : Table) (scale : ℕ) → n < length trees → tree_of trees n ≡ tree
    → AreLoads board (without_net trees n) numbers loads
    → IsScaled table table.scale (λ e. 2 * load_of trees numbers e) → scale ≤ table.scale
    → ((e : ℕ) → Contains tree e → tabled_length table e * scale
    ≤ 4096 * (2 * slice_index loads e + slice_index numbers n))
    → IsScaled table scale (λ e. 2 * slice_index loads e + slice_index numbers n)
scaled-turn board trees numbers n loads tree table scale there is are so_far least own e =
    ⊎_elim
    (λ (in_tree : Contains tree e). own e in_tree)
    (λ (apart : load_by (slice_index numbers n) tree e ≡ 0).
    lower-scale (tabled_length table e) table.scale scale
    (4096 * (2 * slice_index loads e + slice_index numbers n)) least
    (omega (
      arith,
      so_far e,
      load-split trees numbers n e there,
      ap (λ (w : List ℕ). load_by (slice_index numbers n) w e) is,
      apart,
      are.each e,
    )))
    (tree-or-none (slice_index numbers n) tree e)

-- the table beside the loads, in the words of the trees
pub scaled-trees : (board : Board) (trees : List (List ℕ)) (numbers loads : List ℕ) (of : Board)
    (table : Table) → AreLoads board trees numbers loads → IsTableAt of loads table
    → IsScaled table table.scale (λ e. 2 * load_of trees numbers e)
scaled-trees board trees numbers loads of table are at e = omega (arith, at.scaled e, are.each e)

-- a net has moved from its tree to other wires, and the scale is lowered for the wires of its tree
pub table-moved : (board : Board) (table new : Table) (number : ℕ) (tree wires loads rest now : List ℕ)
    → IsTableAt board loads table → IsTable board new → new.loads.items ≡ table.loads.items
    → new.scale ≤ table.scale → IsAdded number tree rest loads → IsAdded number wires rest now
    → ((e : ℕ) → Contains tree e → tabled_length new e * new.scale ≤ 4096 * (2 * slice_index now e + 0))
    → IsTableAt board now new
table-moved board table new number tree wires loads rest now at is same least off on own = record {
  table_is = is;
  scaled = λ e. ⊎_elim
      (λ (in_tree : Contains tree e). own e in_tree)
      (λ (apart : load_by number tree e ≡ 0).
      let tabled : tabled_length new e ≡ tabled_length table e =
      ap (λ (xs : List ℕ). 2 * slice_index xs e + 0) same in
      let before : tabled_length new e * table.scale ≤ 4096 * (2 * slice_index loads e + 0) =
      subst (λ (k : ℕ). k * table.scale ≤ 4096 * (2 * slice_index loads e + 0)) (sym tabled) (at.scaled e) in
      lower-scale (tabled_length new e) table.scale new.scale (4096 * (2 * slice_index now e + 0)) least
      (omega (arith, before, off.each e, on.each e, apart)))
      (tree-or-none number tree e);
}

-- a net is back on its tree
pub table-back : (board : Board) (table : Table) (number : ℕ) (tree loads rest now : List ℕ)
    → IsTableAt board loads table → IsAdded number tree rest loads → IsAdded number tree rest now
    → IsTableAt board now table
table-back board table number tree loads rest now at off on = record {
  table_is = at.table_is;
  scaled = λ e. omega (arith, at.scaled e, off.each e, on.each e);
}
