use Rattle.std.proofs.Common.{◌≡◌, ◌≢◌, ◌<◌, ℕ, Bool, true, List, [], ◌∷◌, length, refl, sym, ap, ◌∙◌, subst, inr, arith}
use Rattle.std.specs.Prelude.{◌==◌, All, AllPairs, Contains, slice_index}
use Rattle.std.proofs.lemmas.Bool.{eqb-true}
use Rattle.std.proofs.lemmas.List.Elements.{All-tail}
use Rattle.board_graph.specs.Graph.{board_of}
use Rattle.bound_cert.specs.Growth.{IsGrowth, IsHeight, IsReach}
use Rattle.cert_checker.specs.Growing.{Lengths, arcs_of, height_in, AreGoals, AreListed}
use Rattle.cert_checker.proofs.GrowingLaws.{alone-ok, goals-after, grown-ok}
use Rattle.cert_checker.proofs.Rests.{AreListed-whole}
use Rattle.cert_checker.proofs.growth.Grower.growth.Goals as goal

-- a list whose first two are known
both : (fpgas growing later : List ℕ) (root first : ℕ) → fpgas ≡ root ∷ growing → growing ≡ first ∷ later
    → fpgas ≡ root ∷ first ∷ later
both fpgas growing later root first is behind = is ∙ ap (λ (xs : List ℕ). root ∷ xs) behind

-- a list without elements
empty : (xs : List ℕ) (test : Bool) → test ≡ true → test ≡ (length xs == 0) → xs ≡ []
empty [] test passed is = refl
empty (x ∷ xs) test passed is =
    absurd (omega (arith, eqb-true (length (x ∷ xs)) 0 (sym is ∙ passed)))

pub first_reach-requires-clause-there : goal.first_reach-requires-clause-there
first_reach-requires-clause-there c =
    let are = both c.args.fpgas.now c.in-Some.growing.now c.in-Some-split_first.later.now c.in-Some.root.now
    c.in-Some-split_first.first.now c.in-Some.ensures.cases.0 c.in-Some-split_first.ensures.cases.0 in
    subst (λ (l : Lengths). All (λ f. f < l.graph.fpgas)
    (c.in-Some.root.now ∷ c.in-Some-split_first.first.now ∷ c.in-Some-split_first.later.now))
    (sym c.self.view_is) (subst (λ (xs : List ℕ). All (λ f. f < c.args.self.now.graph.fpgas) xs) are
    c.requires.there)

pub grow_all-grown-requires-clause-there : goal.grow_all-grown-requires-clause-there
grow_all-grown-requires-clause-there c =
    let first = c.in-Some-split_first.first.now in
    let later = c.in-Some-split_first.later.now in
    let are = both c.args.fpgas.now c.in-Some.growing.now later c.in-Some.root.now first
    c.in-Some.ensures.cases.0 c.in-Some-split_first.ensures.cases.0 in
    All-tail (λ f. f < c.self.inside.graph.now.fpgas) c.in-Some.root.now (first ∷ later)
    (subst (λ (l : Lengths). All (λ f. f < l.graph.fpgas) (c.in-Some.root.now ∷ first ∷ later))
    (sym c.self.view_is) (subst (λ (xs : List ℕ). All (λ f. f < c.args.self.now.graph.fpgas) xs) are
    c.requires.there))

pub returns-in_default-reached-clause-growth : goal.returns-in_default-reached-clause-growth
returns-in_default-reached-clause-growth c =
    let board = board_of c.self.inside.graph.now in
    let lengths = c.self.inside.lengths.items in
    let are = both c.args.fpgas.now c.in-Some.growing.now c.in-Some-split_first.later.now c.in-Some.root.now
    c.in-Some-split_first.first.now c.in-Some.ensures.cases.0 c.in-Some-split_first.ensures.cases.0 in
    subst (λ (l : Lengths). IsGrowth (board_of l.graph) (slice_index l.lengths) c.args.fpgas.now 0)
    c.self.view_is (subst (λ (xs : List ℕ). IsGrowth board (slice_index lengths) xs 0) (sym are) (inr (
      refl,
      rw c.in_default-reached.is at c.in_ok-reached.ensures.apart,
    )))

pub returns-then-is_empty-clause-growth : goal.returns-then-is_empty-clause-growth
returns-then-is_empty-clause-growth c =
    let board = board_of c.self.inside.graph.now in
    let lengths = c.self.inside.lengths.items in
    let root = c.in-Some.root.now in
    let first = c.in-Some-split_first.first.now in
    let later = c.in-Some-split_first.later.now in
    let reach = c.in-Some-reached.reach in
    let are = both c.args.fpgas.now c.in-Some.growing.now later root first c.in-Some.ensures.cases.0
    c.in-Some-split_first.ensures.cases.0 in
    let reached = subst (λ (ls : List ℕ). IsReach board (arcs_of ls ls) first (root ∷ later) reach)
    c.deref.ensures.value (rw c.in-Some-reached.is at c.in_ok-reached.ensures.reached) in
    let heights = subst (λ (ls : List ℕ). (f : ℕ) → IsHeight board (arcs_of ls ls) first reach f
    (height_in c.first_reach.new.start reach f)) c.deref.ensures.value
    (rw c.in-Some-reached.is at c.in_ok-reached.ensures.heights) in
    let grows = alone-ok board lengths root first later (height_in c.first_reach.new.start reach) reach
    (empty later c.is_empty.result c.if-is_empty.true c.is_empty.ensures) reached heights in
    subst (λ (l : Lengths). IsGrowth (board_of l.graph) (slice_index l.lengths) c.args.fpgas.now c.from.result)
    c.self.view_is (subst (λ (xs : List ℕ). IsGrowth board (slice_index lengths) xs c.from.result) (sym are)
    (subst (IsGrowth board (slice_index lengths) (root ∷ first ∷ later)) (sym c.from.ensures) grows))

pub remove_goal-requires : goal.remove_goal-requires
remove_goal-requires c =
    let are = both c.args.fpgas.now c.in-Some.growing.now c.in-Some-split_first.later.now c.in-Some.root.now
    c.in-Some-split_first.first.now c.in-Some.ensures.cases.0 c.in-Some-split_first.ensures.cases.0 in
    let there = subst (λ (xs : List ℕ). All (λ f. f < c.args.self.now.graph.fpgas) xs) are c.requires.there in
    omega (
      arith,
      there 1 0 (omega arith),
      ap (λ (l : Lengths). l.graph.fpgas) c.self.view_is,
      c.mark.ensures.count,
      c.self.invariant.8,
    )

pub grow_all-grown-requires-clause-distinct : goal.grow_all-grown-requires-clause-distinct
grow_all-grown-requires-clause-distinct c =
    subst (λ (xs : List ℕ). AllPairs (λ x y. x ≢ y) xs) (both c.args.fpgas.now c.in-Some.growing.now
    c.in-Some-split_first.later.now c.in-Some.root.now c.in-Some-split_first.first.now
    c.in-Some.ensures.cases.0 c.in-Some-split_first.ensures.cases.0) c.requires.distinct

pub grow_all-grown-requires-clause-marked : goal.grow_all-grown-requires-clause-marked
grow_all-grown-requires-clause-marked c =
    let root = c.in-Some.root.now in
    let first = c.in-Some-split_first.first.now in
    let later = c.in-Some-split_first.later.now in
    let are = both c.args.fpgas.now c.in-Some.growing.now later root first c.in-Some.ensures.cases.0
    c.in-Some-split_first.ensures.cases.0 in
    goals-after root (first ∷ later) 0 (omega arith) c.mark.new.search.goals c.remove_goal.new.self.goals
    (subst (λ (xs : List ℕ). AllPairs (λ x y. x ≢ y) xs) are c.requires.distinct)
    (subst (λ (xs : List ℕ). AreGoals xs c.mark.new.search.goals) are c.mark.ensures.goals)
    c.remove_goal.ensures.goals

pub unmark-requires-clause-goals : goal.unmark-requires-clause-goals
unmark-requires-clause-goals c = λ f on.
    subst (λ (xs : List ℕ). Contains xs f) (sym (both c.args.fpgas.now c.in-Some.growing.now
    c.in-Some-split_first.later.now c.in-Some.root.now c.in-Some-split_first.first.now
    c.in-Some.ensures.cases.0 c.in-Some-split_first.ensures.cases.0)) (c.grow_all-grown.ensures.among f on)

pub restore-requires : goal.restore-requires
restore-requires c =
    let lengths = c.self.inside.lengths.items in
    let up = c.grow_all-grown.new.up.items in
    let down = c.grow_all-grown.new.down.items in
    let listed = c.grow_all-grown.ensures.listed lengths
    (AreListed-whole lengths c.self.inside.up.items c.self.inside.down.items c.self.inside.worn.listed
    c.self.invariant.10 c.self.invariant.11 c.self.invariant.12) in
    record {
      listed = subst (λ (xs : List ℕ). AreListed xs up down c.items.result.now) (sym c.deref-2.ensures.value)
          (subst (λ (xs : List ℕ). AreListed lengths up down xs) (sym c.items.ensures) listed);
    }

pub returns-clause-growth : goal.returns-clause-growth
returns-clause-growth c =
    let board = board_of c.self.inside.graph.now in
    let lengths = c.self.inside.lengths.items in
    let root = c.in-Some.root.now in
    let first = c.in-Some-split_first.first.now in
    let later = c.in-Some-split_first.later.now in
    let are = both c.args.fpgas.now c.in-Some.growing.now later root first c.in-Some.ensures.cases.0
    c.in-Some-split_first.ensures.cases.0 in
    let grows = grown-ok board lengths c.self.inside.up.items c.self.inside.down.items root (first ∷ later)
    c.self.invariant.10 c.self.invariant.11 c.in_ok-grown.field-0 c.in_ok-grown.ensures.grown
    c.in_ok-grown.ensures.apart in
    subst (λ (l : Lengths). IsGrowth (board_of l.graph) (slice_index l.lengths) c.args.fpgas.now
    c.unwrap_or.result) c.self.view_is
    (subst (λ (xs : List ℕ). IsGrowth board (slice_index lengths) xs c.unwrap_or.result) (sym are)
    (subst (IsGrowth board (slice_index lengths) (root ∷ first ∷ later)) (sym c.unwrap_or.ensures) grows))
